use Rattle.std.proofs.Common.{◌≡◌, refl, sym, subst}
use Rattle.site_history.specs.Histories.{Entry, Publish, History, with_entry, published_of}
use Rattle.site_history.specs.Legal.{IsLegal}
use Rattle.site_core.specs.Books.{IsSound}
use Rattle.site_core.proofs.Keeping.{kept_of, sound_note}
use Rattle.site_core.proofs.book.Book.publish_newer.Goals as goal

pub invariant_of-self-2 : goal.invariant_of-self-2
invariant_of-self-2 g c =
    let b = c.self.inside in
    let h : History = b.state.history in
    let e : Entry = Publish c.args.caller (published_of c.in-Ok.number c.args.candidate) in
    let history : c.publish.new.self.history ≡ with_entry h e = c.in-Ok.ensures.ok in
    subst (λ (x : History). IsSound g.K.Keeper.rows g.K.Keeper.faults (kept_of x b.found.value b.keeper)) (sym history)
    (sound_note g.K.Keeper.rows g.K.Keeper.faults h b.found.value b.keeper e c.self.invariant (subst IsLegal history c.places-2.ensures.legal) refl refl)
