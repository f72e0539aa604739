use Rattle.std.proofs.Common.{rules, ap}
use Rattle.turn_book.proofs.Fronts.{parts_of_front}
use Rattle.turn_book.proofs.Keeps.{looking}
use Rattle.turn_book.proofs.site.Site.news.Goals as goal

pub load-word-requires : goal.load-word-requires
load-word-requires g c = (search rules, search rules, looking g.K.Keeper.rows g.K.Keeper.faults _ _ _ _ c.seat.invariant.3.off)

pub returns-clause-shows : goal.returns-clause-shows
returns-clause-shows g c =
    let found = c.load-word.ensures.2 in
    parts_of_front _ _ _ found.1.legal found.2 (ap (λ m. m.0.seen) found.3)

pub invariant_of-seat : goal.invariant_of-seat
invariant_of-seat g c =
    let found = c.load-word.ensures.2 in
    (search rules, search rules, search rules, search rules, (parts_of_front _ _ _ found.1.legal found.2 (ap (λ m. m.0.seen) found.3)).0)
