use Rattle.std.proofs.Common.{◌∙◌}
use Rattle.site_runs.proofs.Played.{is_played}
use Rattle.site_runs.proofs.answers.open.Goals as goal

pub returns-in-Ok : goal.returns-in-Ok
returns-in-Ok g c said is =
    is_played g.K.Keeper.rows g.K.Keeper.faults said c.args.script.caps c.args.script.lines.items c.args.keeper c.in-Ok.book.history.opened c.in-Ok.book.history c.played-answer.new.book c.played-answer.result
    is.table is.lines c.in-Ok.ensures.history (c.played-answer.ensures.found ∙ c.in-Ok.ensures.found) c.played-answer.ensures.sound c.in-Ok.ensures.opens c.played-answer.ensures.run
