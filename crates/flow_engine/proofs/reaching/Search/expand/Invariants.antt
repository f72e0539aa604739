use Rattle.std.proofs.Common.{ℕ, ◌<◌, ◌≤◌, ◌+◌}
use Rattle.flow_engine.specs.inner.Reached.{AreReached, IsGrown, IsLookedAt, reached_count}
use Rattle.flow_engine.proofs.reaching.Search.expand.Given as goal

abbrev pub invariant-loop-arc : goal.invariant-loop-arc
invariant-loop-arc g l = record {
  reached : AreReached l.residual.arcs l.self;
  grown : IsGrown l.residual.arcs l.node l.next l.fn.self l.self;
  looked : (e : ℕ) → l.from ≤ e → e < l.arc → IsLookedAt l.residual.arcs l.self e;
  steps : l.steps + reached_count l.fn.self + l.from ≤ l.fn.steps + reached_count l.self + l.arc;
}
