use Rattle.std.proofs.Common.{◌≡◌, ◌∙◌, sym, ap, subst, List, [], ◌∷◌, ◌++◌, ◌+◌, ◌*◌, refl, Option, Some, arith}
use Rattle.atomic_table.specs.Table.{opening}
use Rattle.site_core.specs.Books.{Kept, IsSound}
use Rattle.site_history.specs.Histories.{places}
use Rattle.turn_book.specs.Seats.{made_by}
use Rattle.turn_book.specs.inner.Known.{front}
use Rattle.turn_book.specs.inner.Turns.{Keeps, newcomer, Sat}
use Rattle.turn_book.proofs.Places.{made-opened}
use Rattle.turn_book.proofs.Seats.{IsAtRest, newcomer_idle}
use Rattle.turn_book.proofs.Keeps.{opens}
use Rattle.turn_book.proofs.site.Site.open.Goals as goal

pub new-requires : goal.new-requires
new-requires g c =
    let B = Kept g.row.K.Denot in
    let rows = g.K.Keeper.rows in
    let faults = g.K.Keeper.faults in
    let book : B = c.args.book in
    let items : c.push_reserved.new.self.items ≡ Some book ∷ [] = c.push_reserved.ensures.items ∙ ap (λ (l : List (Option B)). l ++ Some book ∷ []) (c.reserve.ensures.items ∙ c.new-slots.ensures.items) in
    let word : c.length-entries.result * 1048576 + c.from-publications.result ≡ front book.history = omega (arith, c.length-entries.ensures.value, c.from-publications.ensures, c.published.ensures) in
    subst (λ (z : B × List (Option B)). Keeps rows faults z.0 (opening ((c.length-entries.result * 1048576 + c.from-publications.result) ∷ 0 ∷ []) z.1 (newcomer z.0.history)))
    (λ i. (sym c.of-opened.ensures i, sym items i)) (opens rows faults book _ c.length-entries.ensures.sound word)

pub invariant_of-result : goal.invariant_of-result
invariant_of-result g c =
    let rows = g.K.Keeper.rows in
    let faults = g.K.Keeper.faults in
    let sound = subst (IsSound rows faults) (sym c.of-opened.ensures) c.length-entries.ensures.sound in
    let key = c.of-opened.result.value in
    subst (IsAtRest 0 9223372036854775808 c.length-entries.result) (sym c.in-Ok.ensures.ok.4)
    (refl, refl, refl, newcomer_idle key.history sound.legal, c.length-entries.ensures.value ∙ ap (λ b. places b.history) (sym c.of-opened.ensures))

pub returns-in-Ok : goal.returns-in-Ok
returns-in-Ok g c =
    let me = c.in-Ok.ensures.ok.4 in
    let same = c.of-opened.ensures in (
      c.in-Ok.ensures.ok.2,
      ap (λ m. m.0.seen) me ∙ ap (λ b. b.history) same,
      ap (λ m. m.0.base) me ∙ ap (λ b. places b.history) same,
      refl,
      refl,
      ap (λ (m : Sat g.K.Keeper.rows g.K.Keeper.faults). made_by m.0.base 0 m.0.seen) me ∙ made-opened 0 c.of-opened.result.value.history,
    )
