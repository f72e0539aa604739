use Rattle.std.proofs.Common.{ℕ, false, ◌≡◌, ◌<◌, ◌+◌, ◌==◌, slice_index_or}
use Rattle.trust_types.specs.declared.accounts.Node.TheVariants.{Account}
use Rattle.split_flow.specs.Split.{InHalf, Supersink}
use Rattle.split_graph.specs.Arcs.{between}
use Rattle.flow_engine.proofs.reading.read_served.Given as goal

abbrev pub invariant-loop-account : goal.invariant-loop-account
invariant-loop-account g l = record {
  steps : l.steps ≡ l.initial.steps + l.account;
  served : (b : ℕ) → b < l.account → slice_index_or l.served b false ≡ (between l.residual.arcs (InHalf (Account b)) Supersink == 0);
}
