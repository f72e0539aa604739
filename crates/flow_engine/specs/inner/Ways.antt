-- Ways along shortest arcs, and what is used up of the arcs that lead on. The crate's own functions alone speak of it.
use Rattle.std.specs.Prelude.{ℕ, ◌≡◌, ◌≢◌, ◌<◌, ◌≤◌, ◌+◌, ◌-◌, ◌*◌, ◌==◌, nat_lt, if◌then◌else◌, List, length, slice_index, slice_set}
use Rattle.trust_types.specs.Sum.{sum_below}
use Rattle.split_graph.specs.Numbers.{node_count}
use Rattle.split_graph.specs.Arcs.{Arcs, arc_count, first_of, head_of, tail_of, rest_of}
use Rattle.flow_engine.specs.inner.Reached.{Reached, AreReached, AreLayered, IsClosed, EndsAfter, first_node, last_node, layer_of, cursor_of, layers_by}

-- The next arc of a node may lead on.
abbrev pub pass : ℕ → Reached → Reached
pass v s = record { nodes = s.nodes; layer = s.layer; cursor = slice_set s.cursor v (cursor_of s v + 1); room = s.room }

-- No shortest way goes on from the node: its arcs are used up, or it is in the deepest layer and no unit can be moved from it to the supersink.
pub record IsSpent (a : Arcs) (deep : ℕ) (s : Reached) (v : ℕ) : Type 0 where
  pub other : v ≢ last_node
  pub used : layers_by deep s v < deep → cursor_of s v ≡ first_of a (v + 1)
  pub closed : deep ≤ layers_by deep s v → IsClosed a v

-- No shortest way goes along the arc.
abbrev pub IsUsed : Arcs → ℕ → Reached → ℕ → Type 0
IsUsed a deep s e = 0 < rest_of a e → layers_by deep s (head_of a e) ≡ layers_by deep s (tail_of a e) + 1 → IsSpent a deep s (head_of a e)

-- Units are sent along shortest ways: no way goes along an arc that was used up.
pub record AreServing (a : Arcs) (deep : ℕ) (s : Reached) : Type 0 where
  pub reached : AreReached a s
  pub some : 0 < deep
  pub few : deep ≤ node_count a.accounts
  pub layers : AreLayered a (layers_by deep s)
  pub used : (v e : ℕ) → layers_by deep s v < deep → first_of a v ≤ e → e < cursor_of s v → IsUsed a deep s e

-- The nodes of a way from the source, one of each layer. The arc from each to the next is the one that its cursor has.
pub record IsOnWay (a : Arcs) (deep : ℕ) (s : Reached) (way : List ℕ) : Type 0 where
  pub short : length way ≤ deep
  pub start : 0 < length way → slice_index way 0 ≡ first_node
  pub layers : (i : ℕ) → i < length way → layer_of s (slice_index way i) ≡ i
  pub row : (i : ℕ) → i + 1 < length way → cursor_of s (slice_index way i) < first_of a (slice_index way i + 1)
  pub passable : (i : ℕ) → i + 1 < length way → 0 < rest_of a (cursor_of s (slice_index way i))
  pub head : (i : ℕ) → i + 1 < length way → head_of a (cursor_of s (slice_index way i)) ≡ slice_index way (i + 1)

-- A way whose last node is of the layer before the deepest, from where two arcs lead to the supersink.
pub record IsWay (a : Arcs) (deep : ℕ) (s : Reached) (way : List ℕ) (end : ℕ) : Type 0 where
  pub on : IsOnWay a deep s way
  pub long : length way ≡ deep
  pub row : cursor_of s (slice_index way (deep - 1)) < first_of a (slice_index way (deep - 1) + 1)
  pub ends : EndsAfter a (cursor_of s (slice_index way (deep - 1))) end

-- How many arcs of the nodes before the deepest layer were used up.
abbrev pub used_of : Arcs → ℕ → Reached → ℕ → ℕ
used_of a deep s v = if nat_lt (layer_of s v) deep then cursor_of s v - first_of a v else 0

abbrev pub used : Arcs → ℕ → Reached → ℕ
used a deep s = sum_below (node_count a.accounts) (used_of a deep s)

-- Some of the arcs were used up, and nodes of the deepest layer reached.
pub record IsServedOn (a : Arcs) (deep : ℕ) (old new : Reached) (way : List ℕ) : Type 0 where
  pub serving : AreServing a deep new
  pub on : IsOnWay a deep new way
  pub same : (v : ℕ) → layers_by deep new v ≡ layers_by deep old v
  pub used : used a deep old ≤ used a deep new
  pub long : length new.layer ≡ length old.layer
  pub cursors : length new.cursor ≡ length old.cursor
  pub room : new.room ≡ old.room

-- What may still be done on ways: it falls with each step.
abbrev pub left_over : Arcs → ℕ → Reached → ℕ → ℕ
left_over a deep s long = 2 * (arc_count a - used a deep s) + (if long == 0 then 0 else deep + 2 - long)

-- An arc that leads on to a node of the next layer.
pub record LeadsOn (a : Arcs) (s : Reached) (next e head : ℕ) : Type 0 where
  pub passable : 0 < rest_of a e
  pub enters : head_of a e ≡ head
  pub next_layer : layer_of s head ≡ next

-- An arc that leads to no such node.
abbrev pub LeadsElsewhere : Arcs → Reached → ℕ → ℕ → Type 0
LeadsElsewhere a s next e = 0 < rest_of a e → layer_of s (head_of a e) ≢ next
