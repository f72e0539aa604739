use Rattle.std.proofs.Common.{ℕ, ◌<◌, ◌≤◌, ◌≢◌, slice_index_or}
use Rattle.trust_types.specs.declared.flows.Side.TheVariants.{Outside}
use Rattle.trust_types.specs.Levels.{rank}
use Rattle.cut_check.proofs.edges.first_taker_outside.Given as goal

abbrev pub invariant-loop-i : goal.invariant-loop-i
invariant-loop-i g l =
    (k : ℕ) → k < l.i → rank l.level ≤ rank (g.G.CertGraph.cert_of l.graph l.giver k).level →
    slice_index_or l.sides (g.G.CertGraph.cert_of l.graph l.giver k).to Outside ≢ Outside
