use Rattle.std.proofs.Common.{sym, subst}
use Rattle.site_runs.specs.Runs.{ComesAfter}
use Rattle.site_runs.proofs.answers.answer.Goals as goal

pub returns-in-Ok : goal.returns-in-Ok
returns-in-Ok g c =
    let read = c.in-Ok.ensures in
    subst (λ (said : _). ComesAfter g.K.Keeper.rows g.K.Keeper.faults said c.args.keeper c.open.result.1 c.open.result.0) (sym read.1) (c.open.ensures read.0 read.2)
