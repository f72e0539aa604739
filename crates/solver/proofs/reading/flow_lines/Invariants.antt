use Rattle.std.proofs.Common.{◌+◌}
use Rattle.flow_engine.specs.Solved.{flow_in}
use Rattle.solver.specs.inner.Writing.{IsWritten}
use Rattle.solver.proofs.reading.flow_lines.Given as goal

abbrev pub invariant-loop-giver : goal.invariant-loop-giver
invariant-loop-giver l = IsWritten (flow_in l.workspace) (l.giver + 1) 0 l.lines.items
