use Rattle.std.proofs.Common.{refl, sym, subst}
use Rattle.site_history.specs.Histories.{Entry, Done, History, records}
use Rattle.site_history.specs.Legal.{IsLegal}
use Rattle.site_core.specs.Books.{IsSound}
use Rattle.site_state.proofs.Stating.{refusal_keeps}
use Rattle.site_core.proofs.Keeping.{kept_of, sound_note, adds_none}
use Rattle.site_core.proofs.book.Book.refuse.Goals as goal

pub invariant_of-self : goal.invariant_of-self
invariant_of-self g c =
    let b = c.self.inside in
    let h : History = b.state.history in
    let e : Entry = Done c.args.caller c.args.act.value c.args.reply c.args.moment in
    let now = c.refuse.ensures.history in
    subst (λ (x : History). IsSound g.K.Keeper.rows g.K.Keeper.faults (kept_of x b.found.value b.keeper)) (sym now)
    (sound_note g.K.Keeper.rows g.K.Keeper.faults h b.found.value b.keeper e c.self.invariant (subst IsLegal now c.places.ensures.legal)
    (adds_none (records h) c.args.caller c.args.moment c.args.act.value c.args.reply (refusal_keeps c.args.reply c.requires.refusal)) refl)
