use Rattle.std.proofs.Common.{rules, ◌≡◌, ◌∷◌, [], ◌∙◌, ap, Some}
use Rattle.atomic_table.specs.Table.{rest}
use Rattle.turn_book.proofs.Keeps.{releasing}
use Rattle.turn_book.proofs.site.Site.give.Goals as goal

pub store-requires : goal.store-requires
store-requires g c =
    let now = c.exchange.ensures.3 in
    let same = ap (λ m. m.0) now in
    let has : c.exchange.new.seat.me.1 ≡ (0, Some c.args.book) ∷ [] = ap (λ m. m.1) now ∙ ap (λ cs. (0, Some c.args.book) ∷ rest cs) c.requires.turn.0 in (
      search rules,
      search rules,
      releasing g.K.Keeper.rows g.K.Keeper.faults _ _ _ c.exchange.new.seat.me c.args.book has (ap (λ v. v.seen) same ∙ c.requires.turn.2) c.requires.sound (ap (λ v. v.turn) same ∙ c.requires.turn.1),
    )
