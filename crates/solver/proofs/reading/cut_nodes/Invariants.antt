use Rattle.std.proofs.Common.{◌+◌}
use Rattle.flow_engine.specs.Solved.{sides_in}
use Rattle.solver.specs.inner.Listing.{AreSidesBelow}
use Rattle.solver.proofs.reading.cut_nodes.Given as goal

abbrev pub invariant-loop-number : goal.invariant-loop-number
invariant-loop-number l = AreSidesBelow (sides_in l.workspace) (l.number + 1) l.cut.pass.items l.cut.full.items
