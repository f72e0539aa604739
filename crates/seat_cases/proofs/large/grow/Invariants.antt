use Rattle.std.proofs.Common.{◌≡◌}
use Rattle.seat_cases.proofs.large.grow.Given as goal

abbrev pub invariant-loop-number : goal.invariant-loop-number
invariant-loop-number g l = l.seat.site ≡ l.initial.seat.site

abbrev pub invariant-loop-cert : goal.invariant-loop-cert
invariant-loop-cert g l = l.seat.site ≡ l.initial.seat.site
