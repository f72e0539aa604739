use Rattle.std.proofs.Common.{◌≡◌, refl, sym, ap, ◌∙◌, subst}
use Rattle.site_history.specs.Histories.{Entry, Done, KeeperFault, History, with_entry, records}
use Rattle.site_history.specs.Legal.{IsLegal}
use Rattle.outside.specs.KeptRows.{append_row}
use Rattle.site_core.specs.Books.{IsSound}
use Rattle.site_core.proofs.Keeping.{kept_of, sound_keep, sound_fail, adds_one}
use Rattle.site_core.proofs.book.Book.keep.Goals as goal

pub invariant_of-self-in-Ok-append : goal.invariant_of-self-in-Ok-append
invariant_of-self-in-Ok-append g c =
    let b = c.self.inside in
    let h : History = b.state.history in
    let e : Entry = Done c.args.caller c.args.act.value c.args.reply c.args.moment in
    let needs = rw (← c.self.view_is) at c.requires in
    let history : c.keep.new.self.history ≡ with_entry h e = c.keep.ensures.history ∙ ap (λ (x : History). with_entry x e) c.reserve.ensures.history in
    let rows = c.in-Ok-append.ensures.rows ∙ ap (append_row (g.K.Keeper.rows b.keeper)) (c.deref.ensures.value ∙ c.in-Ok.ensures.row) in
    subst (λ (x : History). IsSound g.K.Keeper.rows g.K.Keeper.faults (kept_of x b.found.value c.append.new.self)) (sym history)
    (sound_keep g.K.Keeper.rows g.K.Keeper.faults h b.found.value b.keeper c.append.new.self e c.args.entry c.self.invariant (subst IsLegal history c.places.ensures.legal)
    (adds_one (records h) c.args.caller c.args.moment c.args.act.value c.args.reply c.args.entry needs.kept needs.entry) refl rows c.in-Ok-append.ensures.cause)

pub invariant_of-self-in-Err-Failed : goal.invariant_of-self-in-Err-Failed
invariant_of-self-in-Err-Failed g c =
    let b = c.self.inside in
    let h : History = b.state.history in
    let e : Entry = KeeperFault c.args.caller in
    let history : c.fail.new.self.history ≡ with_entry h e = c.fail.ensures.history ∙ ap (λ (x : History). with_entry x e) c.reserve.ensures.history in
    let failed = rw c.in-Err-Failed.field-0-is at c.in-Err-Failed.ensures in
    subst (λ (x : History). IsSound g.K.Keeper.rows g.K.Keeper.faults (kept_of x b.found.value c.append.new.self)) (sym history)
    (sound_fail g.K.Keeper.rows g.K.Keeper.faults h b.found.value b.keeper c.append.new.self e c.self.invariant (subst IsLegal history c.places-in-Err-Failed.ensures.legal) refl refl failed.rows failed.cause)
