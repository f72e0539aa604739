use Rattle.flow_engine.specs.Solved.{flow_in}
use Rattle.solver.proofs.Writing.{IsRowWritten}
use Rattle.solver.proofs.reading.add_lines_from.Given as goal

abbrev pub invariant-loop-i : goal.invariant-loop-i
invariant-loop-i l = IsRowWritten l.frozen.parts (flow_in l.workspace) l.giver l.i l.lines.items
