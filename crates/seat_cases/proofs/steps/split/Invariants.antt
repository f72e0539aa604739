use Rattle.std.proofs.Common.{◌≡◌}
use Rattle.seat_cases.proofs.steps.split.Given as goal

abbrev pub invariant-loop-done : goal.invariant-loop-done
invariant-loop-done g l = l.seat.site ≡ l.initial.seat.site
