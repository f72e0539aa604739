use Rattle.std.proofs.Common.{List, sym, subst}
use Rattle.script.specs.Stages.{Holdings, without_candidate}
use Rattle.script.specs.inner.Ready.{AreReady}
use Rattle.script.proofs.Growing.{ready_grown, ready_taken, whenever_ok}
use Rattle.script.proofs.events.play_publish.Goals as goal

pub returns-in-Some-clause-ready : goal.returns-in-Some-clause-ready
returns-in-Some-clause-ready g c =
    let h = c.args.book.now.history in
    let after = c.publish.new.book.history in
    whenever_ok c.publish.result
    (subst (λ (actors : List Holdings). AreReady after actors) (sym c.take.ensures.taken)
    (ready_grown h after (without_candidate c.args.actors.now c.args.actor) c.publish.ensures.grows (ready_taken h c.args.actors.now c.args.actor c.requires.ready)))
