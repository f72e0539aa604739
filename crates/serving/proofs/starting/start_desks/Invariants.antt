use Rattle.std.proofs.Common.{◌≡◌}
use Rattle.serving.proofs.starting.start_desks.Given as goal

abbrev pub invariant-loop : goal.invariant-loop
invariant-loop g l = l.seat.site ≡ l.initial.seat.site
