use Rattle.std.proofs.Common.{ℕ, ◌+◌, ◌<◌, ◌≡◌, slice_index}
use Rattle.split_graph.proofs.residual_graph.Residual.clear.Given as goal

abbrev pub invariant-loop-arc : goal.invariant-loop-arc
invariant-loop-arc g l = record {
  steps : l.steps ≡ l.initial.steps + l.arc;
  none : (e : ℕ) → e < l.arc → slice_index l.units e ≡ 0;
}
