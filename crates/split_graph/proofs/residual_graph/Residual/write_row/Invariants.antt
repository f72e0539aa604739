use Rattle.std.proofs.Common.{◌+◌, ◌≡◌, ◌≤◌}
use Rattle.trust_types.specs.declared.accounts.Node.TheVariants.{Account}
use Rattle.split_flow.specs.Split.{InHalf}
use Rattle.split_graph.specs.Numbers.{node_number}
use Rattle.split_graph.specs.Arcs.{first_of}
use Rattle.split_graph.specs.inner.Back.{AreReadBefore}
use Rattle.split_graph.proofs.residual_graph.Residual.write_row.Given as goal

abbrev pub invariant-loop-arc : goal.invariant-loop-arc
invariant-loop-arc l = record {
  read : AreReadBefore l.self.arcs l.arc l.units;
  end : l.to ≡ first_of l.self.arcs (node_number (InHalf (Account l.fn.account)) + 1);
  within : l.arc ≤ l.to;
}
