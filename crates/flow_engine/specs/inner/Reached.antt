-- A search by layers through a residual graph: the split nodes that it reached, the nearest first, told by number. The crate's own functions
-- alone speak of it.
use Rattle.std.specs.Prelude.{ℕ, zero, suc, Bool, ◌≡◌, ◌≢◌, ◌<◌, ◌≤◌, ◌+◌, ◌-◌, ◌==◌, min, nat_lt, if◌then◌else◌, List, [], ◌∷◌, ◌++◌, length, slice_index, slice_index_or, slice_set, count_by}
use Rattle.trust_types.specs.Sum.{sum_below}
use Rattle.split_flow.specs.Split.{Supersink, source}
use Rattle.split_graph.specs.Numbers.{node_number, node_count}
use Rattle.split_graph.specs.Arcs.{Arcs, arc_count, first_of, head_of, tail_of, rest_of}
use Rattle.flow_engine.specs.Solved.{unreached}

-- The numbers of the node from which units go, and of the one to which they do.
abbrev pub first_node : ℕ
first_node = node_number source

abbrev pub last_node : ℕ
last_node = node_number Supersink

-- The nodes reached, for each split node its layer, and the first of its arcs that may still lead on; and for how many nodes there is room.
pub record Reached : Type 0 where
  pub nodes : List ℕ
  pub layer : List ℕ
  pub cursor : List ℕ
  pub room : ℕ

abbrev pub reached_count : Reached → ℕ
reached_count s = length s.nodes

abbrev pub node_at : Reached → ℕ → ℕ
node_at s i = slice_index s.nodes i

abbrev pub layer_of : Reached → ℕ → ℕ
layer_of s v = slice_index_or s.layer v unreached

abbrev pub cursor_of : Reached → ℕ → ℕ
cursor_of s v = slice_index s.cursor v

abbrev pub is_reached : Reached → ℕ → Bool
is_reached s v = nat_lt (layer_of s v) unreached

-- The search has room for the split nodes of so many accounts.
pub record HasRoom (n : ℕ) (s : Reached) : Type 0 where
  pub layer : node_count n ≤ length s.layer
  pub cursor : node_count n ≤ length s.cursor
  pub nodes : length s.layer ≤ s.room

-- A node has a layer where it stands in the list, and no other has one.
pub record AreMarked (nodes layer : List ℕ) : Type 0 where
  pub marked : (i : ℕ) → i < length nodes → slice_index_or layer (slice_index nodes i) unreached < unreached
  pub only : (v : ℕ) → slice_index_or layer v unreached < unreached → (i : ℕ) × (i < length nodes) × (slice_index nodes i ≡ v)

-- An arc from one node to another along which a unit can be moved.
pub record IsOpen (a : Arcs) (u v e : ℕ) : Type 0 where
  pub within : e < arc_count a
  pub tail : tail_of a e ≡ u
  pub head : head_of a e ≡ v
  pub passable : 0 < rest_of a e

-- No unit can be moved from the node to the supersink.
abbrev pub IsClosed : Arcs → ℕ → Type 0
IsClosed a v = (e : ℕ) → IsOpen a v last_node e → ⊥

-- A walk of so many arcs from the source to a node, along each of which a unit can be moved.
abbrev pub WalkAlong : Arcs → ℕ → ℕ → Type 0
WalkAlong a zero v = v ≡ first_node
WalkAlong a (suc m) v = (u : ℕ) × WalkAlong a m u × (e : ℕ) × IsOpen a u v e

-- Each node has the number of a layer, and a unit can be moved at most to the next layer.
pub record AreLayered (a : Arcs) (layer : ℕ → ℕ) : Type 0 where
  pub starts : layer first_node ≡ 0
  pub next : (u v e : ℕ) → IsOpen a u v e → layer v ≤ layer u + 1

-- A node's layer is its distance from the source, and so is the supersink's own; of the last layer before the supersink's this isn't asked.
pub record AreNearest (a : Arcs) (layer : ℕ → ℕ) : Type 0 where
  pub layers : AreLayered a layer
  pub near : (v : ℕ) → layer v + 1 < layer last_node → WalkAlong a (layer v) v
  pub last : WalkAlong a (layer last_node) last_node

-- Nodes that were reached, the source as the first one. From none of them a unit can be moved to the supersink.
pub record AreReached (a : Arcs) (s : Reached) : Type 0 where
  pub room : HasRoom a.accounts s
  pub some : 0 < reached_count s
  pub source : node_at s 0 ≡ first_node
  pub first : layer_of s first_node ≡ 0
  pub below : (i : ℕ) → i < reached_count s → node_at s i < node_count a.accounts
  pub inner : (i : ℕ) → i < reached_count s → node_at s i ≢ last_node
  pub marks : AreMarked s.nodes s.layer
  pub number : count_by (λ l. nat_lt l unreached) s.layer ≡ reached_count s
  pub apart : (i j : ℕ) → i < j → j < reached_count s → node_at s i ≢ node_at s j
  pub early : (i : ℕ) → i < reached_count s → layer_of s (node_at s i) ≤ i
  pub closed : (i : ℕ) → i < reached_count s → IsClosed a (node_at s i)
  pub least : (i : ℕ) → i < reached_count s → first_of a (node_at s i) ≤ cursor_of s (node_at s i)
  pub most : (i : ℕ) → i < reached_count s → cursor_of s (node_at s i) ≤ first_of a (node_at s i + 1)

-- One node more, in a layer.
abbrev pub reach : ℕ → ℕ → ℕ → Reached → Reached
reach node layer cursor s = record {
  nodes = s.nodes ++ node ∷ [];
  layer = slice_set s.layer node layer;
  cursor = slice_set s.cursor node cursor;
  room = s.room;
}

-- What was reached stays as it was. What was reached since is in this layer, and a unit can be moved to it from the node u; its cursor stands at
-- its first arc.
pub record IsGrown (a : Arcs) (u layer : ℕ) (old new : Reached) : Type 0 where
  pub low : layer < unreached
  pub count : reached_count old ≤ reached_count new
  pub node : (i : ℕ) → i < reached_count old → node_at new i ≡ node_at old i
  pub layers : (v : ℕ) → layer_of old v < unreached → layer_of new v ≡ layer_of old v
  pub cursors : (v : ℕ) → layer_of old v < unreached → cursor_of new v ≡ cursor_of old v
  pub since : (i : ℕ) → reached_count old ≤ i → i < reached_count new → layer_of new (node_at new i) ≡ layer
  pub fresh : (v : ℕ) → unreached ≤ layer_of old v → layer_of new v < unreached → (layer_of new v ≡ layer) × (cursor_of new v ≡ first_of a v) × (e : ℕ) × IsOpen a u v e
  pub long : length new.layer ≡ length old.layer
  pub cursors_long : length new.cursor ≡ length old.cursor
  pub room : new.room ≡ old.room

-- If a unit can be moved along the arc, it leads to a node that was reached.
abbrev pub IsLookedAt : Arcs → Reached → ℕ → Type 0
IsLookedAt a s e = 0 < rest_of a e → layer_of s (head_of a e) < unreached

-- The end of a way: an arc to a node, and one from there to the supersink.
pub record EndsAfter (a : Arcs) (e end : ℕ) : Type 0 where
  pub passable : 0 < rest_of a e
  pub ends : IsOpen a (head_of a e) last_node end

-- Only the source was reached, and none of its arcs was looked at.
pub record IsBegun (a : Arcs) (old new : Reached) : Type 0 where
  pub count : reached_count new ≡ 1
  pub source : node_at new 0 ≡ first_node
  pub first : layer_of new first_node ≡ 0
  pub only : (v : ℕ) → layer_of new v < unreached → v ≡ first_node
  pub number : count_by (λ l. nat_lt l unreached) new.layer ≡ 1
  pub cursor : cursor_of new first_node ≡ first_of a first_node
  pub long : length new.layer ≡ length old.layer
  pub cursors_long : length new.cursor ≡ length old.cursor
  pub room : new.room ≡ old.room

-- How many arcs leave a node, and the first nodes reached.
abbrev pub row_length : Arcs → ℕ → ℕ
row_length a v = first_of a (v + 1) - first_of a v

abbrev pub looked : Arcs → Reached → ℕ → ℕ
looked a s at = sum_below at (λ i. row_length a (node_at s i))

-- A search that goes on: the arcs of the nodes before a place were looked at, and nodes are in order of their distance.
pub record IsSearching (a : Arcs) (s : Reached) (at : ℕ) : Type 0 where
  pub reached : AreReached a s
  pub inside : at ≤ reached_count s
  pub rising : (i j : ℕ) → i ≤ j → j < reached_count s → layer_of s (node_at s i) ≤ layer_of s (node_at s j)
  pub spread : at < reached_count s → (j : ℕ) → j < reached_count s → layer_of s (node_at s j) ≤ layer_of s (node_at s at) + 1
  pub done : (i : ℕ) → i < at → (v e : ℕ) → IsOpen a (node_at s i) v e → layer_of s v ≤ layer_of s (node_at s i) + 1
  pub walked : (v : ℕ) → layer_of s v < unreached → WalkAlong a (layer_of s v) v
  pub begun : (v : ℕ) → layer_of s v < unreached → cursor_of s v ≡ first_of a v

-- The layers of a phase. The supersink is in the one behind the deepest, and nodes that weren't reached count as in the deepest.
abbrev pub layers_by : ℕ → Reached → ℕ → ℕ
layers_by deep s v = if v == last_node then deep + 1 else min (layer_of s v) deep
