use Rattle.std.proofs.Common.{refl}
use Rattle.trust_types.specs.declared.accounts.Node.TheVariants.{Root}
use Rattle.flow_engine.specs.Solved.{flow_in}
use Rattle.solver.proofs.Writing.{written_line}
use Rattle.solver.proofs.reading.add_root_lines.Goals as goal

pub loop-number-preserved : goal.loop-number-preserved
loop-number-preserved c =
    rw c.in_ok-add_line.ensures
    (written_line (flow_in c.args.workspace.now) c.loop-number.number c.loop-number.lines.items
    (record { from = Root; to = c.loop-number.number; units = c.root_units.result }) c.loop-number.invariant refl c.root_units.ensures)
