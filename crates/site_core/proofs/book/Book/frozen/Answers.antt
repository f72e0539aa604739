use Rattle.std.proofs.Common.{◌≡◌, refl, sym, subst}
use Rattle.site_history.specs.Histories.{Entry, Freeze, History, with_entry, records}
use Rattle.site_history.specs.Legal.{IsLegal}
use Rattle.trust_types.specs.Kept.{revision}
use Rattle.site_core.specs.Books.{IsSound}
use Rattle.site_core.proofs.Keeping.{kept_of, sound_note}
use Rattle.site_core.proofs.book.Book.frozen.Goals as goal

pub invariant_of-self-2 : goal.invariant_of-self-2
invariant_of-self-2 g c =
    let b = c.self.inside in
    let h : History = b.state.history in
    let e : Entry = Freeze c.args.caller (revision (records h)) in
    let history : c.freeze.new.self.history ≡ with_entry h e = c.in-Ok.ensures.ok in
    subst (λ (x : History). IsSound g.K.Keeper.rows g.K.Keeper.faults (kept_of x b.found.value b.keeper)) (sym history)
    (sound_note g.K.Keeper.rows g.K.Keeper.faults h b.found.value b.keeper e c.self.invariant (subst IsLegal history c.places-2.ensures.legal) refl refl)
