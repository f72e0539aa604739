use Rattle.std.proofs.Common.{◌≡◌, ◌≢◌, ◌≤◌}
use Rattle.roster_cell.specs.Caches.{IsCached}
use Rattle.serving.specs.Ports.{RoseBy}
use Rattle.serving.proofs.accepting.accept_all.Given as goal

abbrev pub invariant-loop : goal.invariant-loop
invariant-loop g l =
    (goal.iterator-loop g).can_next l.iterator' × (goal.iterator-loop g).is_finite l.iterator'
    × (l.seat.site ≡ l.initial.seat.site) × IsCached l.seat.seen l.cache
    × RoseBy (g.P.Port.given l.initial.port) (g.P.Port.given l.port) l.links
    × (g.P.Port.faults l.port ≡ g.P.Port.faults l.initial.port)
    × (l.accept ≢ 0 → l.links ≤ l.accept)
