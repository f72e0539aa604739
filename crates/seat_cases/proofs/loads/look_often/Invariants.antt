use Rattle.std.proofs.Common.{◌≡◌}
use Rattle.seat_cases.proofs.loads.look_often.Given as goal

abbrev pub invariant-loop-look : goal.invariant-loop-look
invariant-loop-look g l = l.seat.site ≡ l.initial.seat.site
