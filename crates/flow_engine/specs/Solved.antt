-- What contracts see of a workspace, the flow and the cut that it has found, and how many steps that took.
use Rattle.std.specs.Prelude.{ℕ, ◌≤◌, ◌+◌, nat_lt, List, slice_index_or}
use Rattle.trust_types.specs.declared.levels.Level.{Level}
use Rattle.trust_types.specs.declared.accounts.Node.{Node}
use Rattle.trust_types.specs.Capacity.{AreCapacities}
use Rattle.trust_types.specs.Flow.{Flow, total}
use Rattle.trust_types.specs.Cut.{Sides}
use Rattle.frozen.specs.Revision.{Revision, certificates}
use Rattle.split_flow.specs.Moved.{units_moved, sides_of_reached}
use Rattle.split_graph.specs.Numbers.{node_number}
use Rattle.split_graph.specs.Arcs.{between}
use Rattle.split_graph.specs.Network.{Network, residual_count}
use Rattle.layers.specs.PhaseBound.{capacity_sum, most_steps}

-- The residual graph of what was solved, once no more units can be moved; and for each split node, by number, its distance from the source,
-- where one could still be moved to it.
pub record Solved : Type 0 where
  pub network : Network
  pub layer : List ℕ

-- The distance of a split node to which no unit can be moved.
abbrev pub unreached : ℕ
unreached = 4294967295

-- The units along each edge.
abbrev pub flow_in : Solved → Flow
flow_in s = units_moved (between s.network.arcs)

-- The side of each node.
abbrev pub sides_in : Solved → Sides
sides_in s = sides_of_reached (λ u. nat_lt (slice_index_or s.layer (node_number u) unreached) unreached)

-- Between two counts at most so many steps were taken, by the capacities of the level and the number of accounts that the flow serves.
pub record IsCounted (f : Revision) (level : Level) (flow : Flow) (old new : ℕ) : Type 0 where
  pub cap : Node → ℕ
  pub capacities : AreCapacities (certificates f) level f.caps cap
  pub most : new ≤ old + most_steps (certificates f).accounts (residual_count f.parts) (capacity_sum (certificates f).accounts cap) (total (certificates f).accounts flow)
