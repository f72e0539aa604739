use Rattle.flow_engine.specs.Solved.{flow_in}
use Rattle.solver.specs.inner.Writing.{IsWritten}
use Rattle.solver.proofs.reading.add_root_lines.Given as goal

abbrev pub invariant-loop-number : goal.invariant-loop-number
invariant-loop-number l = IsWritten (flow_in l.workspace) 0 l.number l.lines.items
