use Rattle.std.proofs.Common.{ℕ, ◌≡◌, ◌≤◌, ◌+◌, ◌*◌, length, vec_capacity}
use Rattle.split_flow.specs.Split.{source}
use Rattle.split_flow.specs.Moved.{IsMoved, PassesServed, out_of}
use Rattle.split_graph.specs.Arcs.{between}
use Rattle.split_graph.specs.Network.{IsSameNetwork, StandsFor}
use Rattle.flow_engine.specs.inner.Reached.{reached_count, layers_by}
use Rattle.flow_engine.specs.inner.Ways.{AreServing, used}
use Rattle.flow_engine.specs.inner.Passed.{sent_by}
use Rattle.flow_engine.proofs.serving.serve.Given as goal

abbrev pub invariant-loop-end : goal.invariant-loop-end
invariant-loop-end g l = record {
  same : IsSameNetwork l.fn.residual l.residual;
  moved : IsMoved l.fn.residual.arcs.accounts (between l.fn.residual.arcs) (between l.residual.arcs);
  served : PassesServed (between l.residual.arcs);
  stands : StandsFor l.residual;
  serving : AreServing l.residual.arcs l.deep l.search;
  layers : (v : ℕ) → layers_by l.deep l.search v ≡ layers_by l.deep l.fn.search v;
  less : out_of l.fn.residual.arcs.accounts (between l.residual.arcs) source ≤ out_of l.fn.residual.arcs.accounts (between l.fn.residual.arcs) source;
  idle : out_of l.fn.residual.arcs.accounts (between l.residual.arcs) source ≡ out_of l.fn.residual.arcs.accounts (between l.fn.residual.arcs) source → l.residual.arcs ≡ l.fn.residual.arcs;
  steps : l.steps + reached_count l.fn.search + used l.fn.residual.arcs l.deep l.fn.search ≤ l.fn.steps + reached_count l.search + used l.residual.arcs l.deep l.search + sent_by l.fn.residual.arcs.accounts (between l.fn.residual.arcs) (between l.residual.arcs) * (2 * l.fn.residual.arcs.accounts + 4);
  long : length l.search.layer ≡ length l.fn.search.layer;
  cursors : length l.search.cursor ≡ length l.fn.search.cursor;
  room : l.search.room ≡ l.fn.search.room;
  capacity : vec_capacity l.way ≡ vec_capacity l.fn.way;
}

abbrev pub decreases-loop-end : goal.decreases-loop-end
decreases-loop-end g l = out_of l.fn.residual.arcs.accounts (between l.residual.arcs) source
