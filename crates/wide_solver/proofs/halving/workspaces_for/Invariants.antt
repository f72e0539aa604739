use Rattle.std.proofs.Common.{◌≡◌, ◌≤◌, All, length, vec_capacity}
use Rattle.split_graph.specs.Network.{Fits}
use Rattle.wide_solver.proofs.halving.workspaces_for.Given as goal

abbrev pub invariant-loop : goal.invariant-loop
invariant-loop l = (length l.workspaces.items ≡ l.counter) × All (λ w. Fits l.frozen w.network.room) l.workspaces.items × (l.grades ≤ vec_capacity l.workspaces)
