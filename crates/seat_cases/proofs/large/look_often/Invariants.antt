use Rattle.std.proofs.Common.{◌≡◌}
use Rattle.roster_cell.specs.Caches.{IsCached}
use Rattle.seat_cases.proofs.large.look_often.Given as goal

abbrev pub invariant-loop-look : goal.invariant-loop-look
invariant-loop-look g l = (l.seat.site ≡ l.initial.seat.site) × IsCached l.seat.seen l.cache
