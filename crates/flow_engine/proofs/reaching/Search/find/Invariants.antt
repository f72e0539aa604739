use Rattle.std.proofs.Common.{length, ◌≡◌, ◌≤◌, ◌+◌, ◌-◌}
use Rattle.flow_engine.specs.inner.Reached.{IsSearching, looked, reached_count}
use Rattle.flow_engine.proofs.reaching.Search.find.Given as goal

abbrev pub invariant-loop-at : goal.invariant-loop-at
invariant-loop-at g l = record {
  searching : IsSearching l.residual.arcs l.self l.at;
  long : length l.self.layer ≡ length l.fn.self.layer;
  cursors : length l.self.cursor ≡ length l.fn.self.cursor;
  room : l.self.room ≡ l.fn.self.room;
  steps : l.steps ≤ l.fn.steps + looked l.residual.arcs l.self l.at + reached_count l.self;
}

abbrev pub decreases-loop-at : goal.decreases-loop-at
decreases-loop-at g l = l.self.room - l.at
