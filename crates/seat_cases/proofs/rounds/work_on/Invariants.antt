use Rattle.std.proofs.Common.{◌≡◌}
use Rattle.seat_cases.proofs.rounds.work_on.Given as goal

abbrev pub invariant-loop : goal.invariant-loop
invariant-loop g l =
    (goal.iterator-loop g).can_next l.iterator' × (goal.iterator-loop g).is_finite l.iterator'
    × (l.seat.site ≡ l.initial.seat.site)
