-- Distances through what rests of a split graph, and layers of split nodes, as Dinic's algorithm for maximum flows has them.
use Rattle.std.specs.Prelude.{ℕ, zero, suc, Bool, true, false, ◌≡◌, ◌<◌, ◌≤◌, ◌+◌, ◌==◌, ◌&&◌, ◌||◌, nat_lt}
use Rattle.split_flow.specs.Split.{SplitNode, InHalf, OutHalf, Supersink, source, Rests}
use Rattle.split_flow.specs.Moved.{IsMoved, out_of}

-- A walk of so many arcs from the source to a split node, along each of which a unit can be moved.
abbrev pub WalkTo : Rests → ℕ → SplitNode → Type 0
WalkTo r zero v = v ≡ source
WalkTo r (suc m) v = (u : SplitNode) × WalkTo r m u × (0 < r u v)

-- The residual distance of a split node: the least number of arcs of such a walk.
pub record IsDistanceTo (r : Rests) (v : SplitNode) (m : ℕ) : Type 0 where
  pub walk : WalkTo r m v
  pub least : (k : ℕ) → WalkTo r k v → m ≤ k

-- Each split node has the number of a layer, and a unit can be moved at most to the next layer.
pub record AreLayers (r : Rests) (layer : SplitNode → ℕ) : Type 0 where
  pub starts : layer source ≡ 0
  pub next : (u v : SplitNode) → 0 < r u v → layer v ≤ layer u + 1

-- A split node's layer is its distance, and so is the supersink's own. Of the last layer before the supersink's this isn't asked, nor
-- of later ones: their nodes needn't be reached.
pub record AreByDistance (r : Rests) (layer : SplitNode → ℕ) : Type 0 where
  pub layers : AreLayers r layer
  pub near : (v : SplitNode) → layer v + 1 < layer Supersink → WalkTo r (layer v) v
  pub last : WalkTo r (layer Supersink) Supersink

-- Split nodes from which no shortest way goes on, the source among them: from one of them a unit can be moved to the next layer
-- only to another one.
pub record AreSpent (r : Rests) (layer : SplitNode → ℕ) (spent : SplitNode → Bool) : Type 0 where
  pub starts : spent source ≡ true
  pub stops : spent Supersink ≡ false
  pub closed : (u v : SplitNode) → spent u ≡ true → 0 < r u v → layer v ≡ layer u + 1 → spent v ≡ true

-- A phase: layers go by distance, and units, one at least, were moved so that they are still layers, until no shortest way was left.
pub record IsPhase (n : ℕ) (before after : Rests) : Type 0 where
  pub layer : SplitNode → ℕ
  pub spent : SplitNode → Bool
  pub by : AreByDistance before layer
  pub moved : IsMoved n before after
  pub some : out_of n after source < out_of n before source
  pub layers : AreLayers after layer
  pub ended : AreSpent after layer spent

-- So many phases, one after another.
abbrev pub ArePhases : ℕ → Rests → ℕ → Rests → Type 0
ArePhases n c zero r = c ≡ r
ArePhases n c (suc p) r = (before : Rests) × ArePhases n c p before × IsPhase n before r

-- Whether a split node is the half by which units come into a node.
abbrev pub is_in_half : SplitNode → Bool
is_in_half (InHalf x) = true
is_in_half (OutHalf x) = false
is_in_half Supersink = false

-- The split nodes of the layers before one, and of that one the halves by which units come in.
abbrev pub up_to : (SplitNode → ℕ) → ℕ → SplitNode → Bool
up_to layer i v = nat_lt (layer v) i || ((layer v == i) && is_in_half v)
