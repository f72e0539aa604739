use Rattle.std.proofs.Common.{◌≡◌, refl, sym, subst}
use Rattle.site_history.specs.declared.replies.Reply.TheVariants.{LoggedOut}
use Rattle.site_history.specs.Histories.{Entry, Done, History, with_entry, records}
use Rattle.site_history.specs.Legal.{IsLegal}
use Rattle.site_core.specs.Books.{IsSound}
use Rattle.site_core.proofs.Keeping.{kept_of, sound_note, adds_none}
use Rattle.site_core.proofs.book.Book.log_out.Goals as goal

pub invariant_of-self : goal.invariant_of-self
invariant_of-self g c =
    let b = c.self.inside in
    let h : History = b.state.history in
    let now = c.log_out.ensures in
    let e : Entry = Done c.args.caller c.args.act.value LoggedOut c.args.moment in
    let history : c.log_out.new.self.history ≡ with_entry h e = now in
    subst (λ (x : History). IsSound g.K.Keeper.rows g.K.Keeper.faults (kept_of x b.found.value b.keeper)) (sym history)
    (sound_note g.K.Keeper.rows g.K.Keeper.faults h b.found.value b.keeper e c.self.invariant (subst IsLegal history c.places.ensures.legal)
    (adds_none (records h) c.args.caller c.args.moment c.args.act.value LoggedOut refl) refl)
