use Rattle.split_graph.specs.Network.{StandsFor}
use Rattle.std.proofs.Common.{length}
use Rattle.flow_engine.proofs.Pushing.{Sending}
use Rattle.flow_engine.proofs.serving.send.Given as goal

abbrev pub invariant-loop-place : goal.invariant-loop-place
invariant-loop-place l = record {
  sending : Sending l.fn.residual l.residual (length l.way) l.search l.way l.place;
  stands : StandsFor l.residual;
}

abbrev pub decreases-loop-place : goal.decreases-loop-place
decreases-loop-place l = l.place
