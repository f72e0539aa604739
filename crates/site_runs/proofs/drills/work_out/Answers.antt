use Rattle.std.proofs.Common.{arith}
use Rattle.site_runs.proofs.Worth.{worked_out}
use Rattle.site_runs.proofs.drills.work_out.Goals as goal

pub returns : goal.returns
returns c =
    worked_out c.args.frozen.now c.args.level c.args.pass.now c.args.full.now c.caps-table.result.now c.lay_out-root.result c.at.result c.capacities.new.out c.lay_out-root.new.sides c.cut_value.result
    c.caps-table.ensures c.at.ensures.entry (omega arith) c.capacities.ensures.capacities c.lay_out-root.ensures c.cut_value.ensures
