-- How a workspace is held. The crate's own functions alone speak of it.
use Rattle.std.specs.Prelude.{ℕ, Bool, false, ◌≡◌, ◌<◌, ◌≤◌, ◌+◌, ◌*◌, ◌==◌, List, length, slice_index, slice_index_or, vec_capacity, Some}
use Rattle.trust_types.specs.declared.levels.Level.{Level}
use Rattle.trust_types.specs.declared.accounts.Node.{Node}
use Rattle.trust_types.specs.declared.accounts.Node.TheVariants.{Root, Account}
use Rattle.trust_types.specs.Capacity.{AreCapacities}
use Rattle.trust_types.specs.Flow.{is_served}
use Rattle.frozen.specs.Revision.{Revision, certificates}
use Rattle.split_flow.specs.Split.{SplitNode, InHalf, Supersink, IsSplitGraph}
use Rattle.split_flow.specs.Moved.{units_moved}
use Rattle.split_graph.specs.Numbers.{node_count}
use Rattle.split_graph.specs.Arcs.{Arcs, LeadsTo, arc_count, between}
use Rattle.split_graph.specs.Network.{Room, Network, Fits, StandsFor, units_on}
use Rattle.flow_engine.specs.declared.solving.Scratch.{Scratch}
use Rattle.flow_engine.specs.inner.Reached.{HasRoom}

-- A level of a site was loaded, and no unit was moved yet.
pub record IsLoaded (f : Revision) (level : Level) (n : Network) : Type 0 where
  pub graph : n.graph ≡ Some f
  pub at : n.level ≡ Some level
  pub stands : StandsFor n
  pub cap : Node → ℕ
  pub capacities : AreCapacities (certificates f) level f.caps cap
  pub split : IsSplitGraph (certificates f) level cap (between n.arcs)

-- The arrays have room for sites of so many accounts and certificates.
pub record IsReserved (room : Room) (s : Scratch) : Type 0 where
  pub search : HasRoom room.accounts s.search
  pub way : node_count room.accounts ≤ vec_capacity s.way
  pub waiting : s.queue ≡ room.accounts
  pub capacities : length s.capacities.items ≡ room.accounts
  pub units : length s.units.items ≡ 2 * (3 * room.accounts + room.certs + 1)
  pub root_units : length s.root_units.items ≡ room.accounts
  pub served : length s.served.items ≡ room.accounts

-- A list has for each arc the units along it that may be moved back, if it is along an edge.
pub record AreUnits (a : Arcs) (units : List ℕ) : Type 0 where
  pub long : arc_count a ≤ length units
  pub each : (u v : SplitNode) (e : ℕ) → LeadsTo a u v e → slice_index units e ≡ units_on (between a) u v

-- What was read of the units: along each arc, from the root, and whether each account's arc to the supersink is used up.
pub record AreRead (a : Arcs) (units root_units : List ℕ) (served : List Bool) : Type 0 where
  pub along : AreUnits a units
  pub root : (b : ℕ) → b < a.accounts → slice_index root_units b ≡ units_moved (between a) Root b
  pub ends : (b : ℕ) → b < a.accounts → slice_index_or served b false ≡ (between a (InHalf (Account b)) Supersink == 0)

-- An account's arc to the supersink is used up where the flow serves it.
abbrev pub AreServedByArc : Arcs → Type 0
AreServedByArc a = (b : ℕ) → b < a.accounts → (between a (InHalf (Account b)) Supersink == 0) ≡ is_served a.accounts (units_moved (between a)) b

-- The units of the flow and whom it serves can be read from the lists.
pub record IsReadable (n : Network) (s : Scratch) : Type 0 where
  pub stands : StandsFor n
  pub fits : Fits stands.graph n.room
  pub read : AreRead n.arcs s.units.items s.root_units.items s.served.items
  pub served : AreServedByArc n.arcs
