use Rattle.std.proofs.Common.{◌≡◌}
use Rattle.seat_cases.proofs.rounds.certify.Given as goal

abbrev pub invariant-loop-cert : goal.invariant-loop-cert
invariant-loop-cert g l = l.seat.site ≡ l.initial.seat.site
