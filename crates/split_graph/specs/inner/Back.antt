-- The units on arcs, as they are read off the arcs that lead back, one after another. The crate's own functions alone speak of it.
use Rattle.std.specs.Prelude.{ℕ, ◌≡◌, ◌<◌, ◌≤◌, List, slice_index}
use Rattle.split_flow.specs.Split.{SplitNode}
use Rattle.split_graph.specs.Arcs.{Arcs, LeadsTo, arc_count, twin_of, between}
use Rattle.split_graph.specs.Network.{units_on}

-- The units are written that are read off the arcs before one. The places of the others have 0.
pub record AreReadBefore (a : Arcs) (end : ℕ) (units : List ℕ) : Type 0 where
  pub done : (u v : SplitNode) (e : ℕ) → LeadsTo a u v e → twin_of a e < end → slice_index units e ≡ units_on (between a) u v
  pub left : (e : ℕ) → e < arc_count a → end ≤ twin_of a e → slice_index units e ≡ 0
