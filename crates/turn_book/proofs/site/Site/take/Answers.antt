use Rattle.std.proofs.Common.{rules, ◌≡◌, ◌∙◌, sym, ap, Some, [], ◌∷◌}
use Rattle.atomic_table.specs.Table.{rest}
use Rattle.turn_book.proofs.Keeps.{taking}
use Rattle.turn_book.proofs.site.Site.take.Goals as goal

pub compare_exchange-requires : goal.compare_exchange-requires
compare_exchange-requires g c = (search rules, search rules, taking g.K.Keeper.rows g.K.Keeper.faults _ _ _ _ _ (search rules))

pub exchange-requires : goal.exchange-requires
exchange-requires g c =
    let won = c.compare_exchange.ensures.2.0 c.if-compare_exchange-eq0.true in
    let none_held : c.loop.token.me.1 ≡ [] = ap (λ m. m.1) c.loop.invariant.2 ∙ c.requires.idle.0 in
    let has : c.compare_exchange.new.seat.me.1 ≡ (0, Some won.0) ∷ [] = ap (λ m. m.1) won.3 ∙ ap (λ cs. (0, Some won.0) ∷ cs) none_held in
    (search rules, (Some won.0, has ∙ ap (λ cs. (0, Some won.0) ∷ rest cs) (sym has)))
