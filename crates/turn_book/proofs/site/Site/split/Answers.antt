use Rattle.std.proofs.Common.{rules, ◌+◌, ◌<◌, arith}
use Rattle.turn_book.proofs.Keeps.{splitting}
use Rattle.turn_book.proofs.site.Site.split.Goals as goal

pub split_seat-token-requires : goal.split_seat-token-requires
split_seat-token-requires g c =
    let inv = c.seat.invariant in
    let some_number = inv.3.some_number in
    let v = c.seat.inside.token.me.0 in
    let room : v.low + 1 < v.high = omega arith in
    (search rules, search rules, splitting g.K.Keeper.rows g.K.Keeper.faults _ _ v room inv.3.off inv.3.unborne)
