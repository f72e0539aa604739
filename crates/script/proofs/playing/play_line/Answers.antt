use Rattle.script.proofs.Growing.{ready_grown, whenever_ok}
use Rattle.script.proofs.playing.play_line.Goals as goal

pub returns-in-Act-clause-ready : goal.returns-in-Act-clause-ready
returns-in-Act-clause-ready g c =
    whenever_ok c.play_act.result (ready_grown c.args.book.now.history c.play_act.new.book.history c.args.actors.now c.play_act.ensures.grows c.requires.ready)
