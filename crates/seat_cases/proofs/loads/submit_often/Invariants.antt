use Rattle.std.proofs.Common.{◌≡◌}
use Rattle.seat_cases.proofs.loads.submit_often.Given as goal

abbrev pub invariant-loop-sent : goal.invariant-loop-sent
invariant-loop-sent g l = l.seat.site ≡ l.initial.seat.site
