-- What rests of a split graph after units were moved through it, and the flow and the cut that this gives.
use Rattle.std.specs.Prelude.{ℕ, Bool, true, false, ◌≡◌, ◌≢◌, ◌<◌, ◌+◌, ◌==◌, if◌then◌else◌}
use Rattle.trust_types.specs.declared.levels.Level.{Level}
use Rattle.trust_types.specs.declared.accounts.Node.{Node}
use Rattle.trust_types.specs.declared.accounts.Node.TheVariants.{Root, Account}
use Rattle.trust_types.specs.declared.flows.Side.{Side}
use Rattle.trust_types.specs.declared.flows.Side.TheVariants.{Outside, Pass, Full}
use Rattle.trust_types.specs.Tables.{Table}
use Rattle.trust_types.specs.Graph.{Certificates}
use Rattle.trust_types.specs.Capacity.{AreCapacities}
use Rattle.trust_types.specs.Flow.{Flow}
use Rattle.trust_types.specs.Cut.{Sides}
use Rattle.split_flow.specs.Split.{SplitNode, InHalf, OutHalf, Supersink, source, IsBetween, sum_nodes, Rests, IsSplitGraph}

-- What rests of the split graph of a site, whatever units were moved: between two split nodes as much may be moved, one way
-- and back together, as the capacities allow.
pub record RestsOf (g : Certificates) (level : Level) (table : Table) (r : Rests) : Type 0 where
  pub cap : Node → ℕ
  pub capacity : Rests
  pub capacities : AreCapacities g level table cap
  pub split : IsSplitGraph g level cap capacity
  pub both : (u v : SplitNode) → r u v + r v u ≡ capacity u v + capacity v u

-- One unit was moved from p to v.
pub record IsOneMoved (before after : Rests) (p v : SplitNode) : Type 0 where
  pub down : after p v + 1 ≡ before p v
  pub up : after v p ≡ before v p + 1
  pub same : (x y : SplitNode) → (x ≡ p → y ≢ v) → (x ≡ v → y ≢ p) → after x y ≡ before x y

-- What may be moved out of a split node, where there are n accounts.
abbrev pub out_of : ℕ → Rests → SplitNode → ℕ
out_of n r u = sum_nodes n (r u)

-- Some units were moved from the source to the supersink: what was moved one way may be moved back, and as much came into each
-- split node between as went out.
pub record IsMoved (n : ℕ) (c r : Rests) : Type 0 where
  pub both : (u v : SplitNode) → r u v + r v u ≡ c u v + c v u
  pub kept : (u : SplitNode) → IsBetween n u → out_of n r u ≡ out_of n c u

-- A unit was moved along the end of a way, from the supersink back to v: it is still to come into v.
pub record IsMidway (n : ℕ) (before now : Rests) (v : SplitNode) : Type 0 where
  pub both : (x y : SplitNode) → now x y + now y x ≡ before x y + before y x
  pub kept : (u : SplitNode) → u ≢ Supersink → u ≢ v → out_of n now u ≡ out_of n before u
  pub missing : v ≢ Supersink → out_of n now v + 1 ≡ out_of n before v

-- The units that were moved along each edge, which may be moved back.
abbrev pub units_moved : Rests → Flow
units_moved r Root b = r (InHalf (Account b)) (OutHalf Root)
units_moved r (Account a) b = if a == b then 0 else r (InHalf (Account b)) (OutHalf (Account a))

-- An account passes units on only where the supersink took one from it.
abbrev pub PassesServed : Rests → Type 0
PassesServed r = (x : ℕ) → 0 < r (OutHalf (Account x)) (InHalf (Account x)) → r (InHalf (Account x)) Supersink ≡ 0

-- What may be moved from a set of split nodes to the others, where there are n accounts.
abbrev pub leaving : ℕ → (SplitNode → Bool) → Rests → ℕ
leaving n members r = sum_nodes n (λ u. if members u then sum_nodes n (λ v. if members v then 0 else r u v) else 0)

-- A set of split nodes that has the source and not the supersink, and that nothing can be moved out of.
pub record IsSaturated (r : Rests) (reached : SplitNode → Bool) : Type 0 where
  pub starts : reached source ≡ true
  pub stops : reached Supersink ≡ false
  pub closed : (u v : SplitNode) → reached u ≡ true → 0 < r u v → reached v ≡ true

-- The side of a node by whether each of its halves is in a set: with both it passes, with the first alone it is full.
abbrev pub side_of_halves : Bool → Bool → Side
side_of_halves false _ = Outside
side_of_halves true true = Pass
side_of_halves true false = Full

-- The cut that a set of split nodes gives.
abbrev pub sides_of_reached : (SplitNode → Bool) → Sides
sides_of_reached reached x = side_of_halves (reached (InHalf x)) (reached (OutHalf x))
