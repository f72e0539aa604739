use Rattle.std.proofs.Common.{ℕ, ◌<◌, ◌≢◌, IsTrue, slice_index_or}
use Rattle.trust_types.specs.declared.flows.Side.TheVariants.{Outside}
use Rattle.cut_check.proofs.edges.first_seed_outside.Given as goal

abbrev pub invariant-loop-number : goal.invariant-loop-number
invariant-loop-number g l =
    (b : ℕ) → b < l.number → IsTrue ((g.G.CertGraph.certificates l.graph).is_seed b) → slice_index_or l.sides b Outside ≢ Outside
