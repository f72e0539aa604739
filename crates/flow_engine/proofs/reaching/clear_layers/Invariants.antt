use Rattle.std.proofs.Common.{ℕ, ◌≡◌, ◌<◌, ◌≤◌, length, get_or}
use Rattle.flow_engine.specs.Solved.{unreached}
use Rattle.flow_engine.proofs.reaching.clear_layers.Given as goal

abbrev pub invariant-loop-node : goal.invariant-loop-node
invariant-loop-node l = (v : ℕ) → get_or l.layer v unreached < unreached → (i : ℕ) × (l.node-index ≤ i) × (i < length l.nodes) × (get_or l.nodes i 0 ≡ v)
