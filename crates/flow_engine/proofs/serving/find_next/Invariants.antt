use Rattle.std.proofs.Common.{◌≤◌, ◌+◌, ◌-◌}
use Rattle.flow_engine.specs.inner.Reached.{reached_count, cursor_of}
use Rattle.flow_engine.specs.inner.Ways.{IsServedOn, used}
use Rattle.flow_engine.proofs.serving.find_next.Given as goal

abbrev pub invariant-loop-search : goal.invariant-loop-search
invariant-loop-search g l = record {
  on : IsServedOn l.residual.arcs l.deep l.fn.search l.search l.way;
  steps : l.steps + reached_count l.fn.search + used l.residual.arcs l.deep l.fn.search ≤ l.fn.steps + reached_count l.search + used l.residual.arcs l.deep l.search;
}

abbrev pub decreases-loop-search : goal.decreases-loop-search
decreases-loop-search g l = l.to - cursor_of l.search l.node
