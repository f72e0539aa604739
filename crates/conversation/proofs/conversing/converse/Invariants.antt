use Rattle.std.proofs.Common.{length, ◌≡◌}
use Rattle.roster_cell.specs.Caches.{IsCached}
use Rattle.conversation.specs.Ends.{world}
use Rattle.conversation.specs.inner.Talking.{Talking}
use Rattle.conversation.proofs.conversing.converse.Given as goal

abbrev pub invariant-loop-i : goal.invariant-loop-i
invariant-loop-i g l = record {
  talking : Talking (world l.initial.seat (g.L.Link.line l.initial.link) (g.C.Clock.dial l.initial.clock) (g.E.Entropy.pool l.initial.entropy))
      (world l.seat (g.L.Link.line l.link) (g.C.Clock.dial l.clock) (g.E.Entropy.pool l.entropy)) l.log l.inbox;
  cached : IsCached l.seat.seen l.cache;
  count : length l.log ≡ l.i;
}
