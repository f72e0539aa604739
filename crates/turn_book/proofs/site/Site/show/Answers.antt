use Rattle.std.proofs.Common.{rules, ◌≡◌, ◌∷◌, ◌+◌, ◌*◌, [], ◌∙◌, sym, ap, Some, arith}
use Rattle.atomic_table.specs.Table.{rest}
use Rattle.site_history.specs.Histories.{with_entry}
use Rattle.turn_book.specs.inner.Known.{front}
use Rattle.turn_book.proofs.Keeps.{storing, releasing}
use Rattle.turn_book.proofs.site.Site.show.Goals as goal

pub store-requires : goal.store-requires
store-requires g c =
    let now = c.exchange.ensures.3 in
    let same = ap (λ m. m.0) now in
    let has : c.exchange.new.seat.me.1 ≡ (0, Some c.args.book) ∷ [] = ap (λ m. m.1) now ∙ ap (λ cs. (0, Some c.args.book) ∷ rest cs) c.requires.turn.0 in
    let e = c.requires.entry.0 in
    let is_front : c.length-entries.result * 1048576 + c.from.result ≡ front c.args.book.history = omega (arith, c.length-entries.ensures.value, c.from.ensures, c.published.ensures) in (
      search rules,
      search rules,
      storing g.K.Keeper.rows g.K.Keeper.faults _ _ _ _ c.exchange.new.seat.me c.args.book e has (c.requires.entry.1 ∙ ap (λ v. with_entry v.seen e) (sym same)) (c.requires.entry.2 ∙ ap (λ v. v.low) (sym same)) c.length-entries.ensures.sound.legal
          (ap (λ v. v.turn) same ∙ c.requires.turn.1) is_front,
    )

pub store-requires-2 : goal.store-requires-2
store-requires-2 g c =
    let now = c.exchange.ensures.3 in
    let same = ap (λ m. m.0) now in
    let has : c.exchange.new.seat.me.1 ≡ (0, Some c.args.book) ∷ [] = ap (λ m. m.1) now ∙ ap (λ cs. (0, Some c.args.book) ∷ rest cs) c.requires.turn.0 in
    let after = c.store.ensures.2 c.args.book has in (
      search rules,
      search rules,
      releasing g.K.Keeper.rows g.K.Keeper.faults _ _ _ c.store.new.seat.me c.args.book (ap (λ m. m.1) after ∙ has) (ap (λ m. m.0.seen) after) c.length-entries.ensures.sound
          (ap (λ m. m.0.turn) after ∙ (ap (λ v. v.turn) same ∙ c.requires.turn.1)),
    )
