use Rattle.std.proofs.Common.{◌≤◌}
use Rattle.trust_types.specs.declared.accounts.Node.TheVariants.{Account}
use Rattle.split_flow.specs.Split.{InHalf}
use Rattle.split_graph.specs.Numbers.{node_number}
use Rattle.split_graph.specs.Arcs.{first_of}
use Rattle.split_graph.specs.inner.Back.{AreReadBefore}
use Rattle.split_graph.proofs.residual_graph.Residual.unload.Given as goal

abbrev pub invariant-loop-account : goal.invariant-loop-account
invariant-loop-account g l = record {
  read : AreReadBefore l.self.arcs (first_of l.self.arcs (node_number (InHalf (Account l.account)))) l.units;
  within : l.account ≤ l.self.arcs.accounts;
}
