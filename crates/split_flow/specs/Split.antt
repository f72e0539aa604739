-- Levien's split graph of a site at a level: each node x is split into two halves, x- and x+, with an arc from the first to the
-- second, and an arc leads from each account's first half to one supersink.
use Rattle.std.specs.Prelude.{ℕ, ◌≡◌, ◌<◌, ◌+◌, ◌-◌}
use Rattle.trust_types.specs.declared.levels.Level.{Level}
use Rattle.trust_types.specs.declared.accounts.Node.{Node}
use Rattle.trust_types.specs.declared.accounts.Node.TheVariants.{Root, Account}
use Rattle.trust_types.specs.Sum.{sum_below}
use Rattle.trust_types.specs.Graph.{Certificates, HasEdge}

-- The half by which units come into a node (x-), that by which they leave it (x+), and the node that takes one unit from each
-- account that is served.
pub data SplitNode : Type 0 where
  InHalf : Node → SplitNode
  OutHalf : Node → SplitNode
  Supersink : SplitNode

-- Units go from the root's first half to the supersink.
abbrev pub source : SplitNode
source = InHalf Root

-- The root is a node, and so is each account.
abbrev pub IsNode : ℕ → Node → Type 0
IsNode n Root = Unit {0}
IsNode n (Account a) = a < n

abbrev pub IsAccount : ℕ → Node → Type 0
IsAccount n Root = ⊥
IsAccount n (Account a) = a < n

-- The split nodes, where there are n accounts.
abbrev pub IsSplitNode : ℕ → SplitNode → Type 0
IsSplitNode n (InHalf x) = IsNode n x
IsSplitNode n (OutHalf x) = IsNode n x
IsSplitNode n Supersink = Unit {0}

-- Those between the source and the supersink.
abbrev pub IsBetween : ℕ → SplitNode → Type 0
IsBetween n (InHalf x) = IsAccount n x
IsBetween n (OutHalf x) = IsNode n x
IsBetween n Supersink = ⊥

-- A sum over the split nodes.
abbrev pub sum_nodes : ℕ → (SplitNode → ℕ) → ℕ
sum_nodes n f = f (InHalf Root) + f (OutHalf Root) + sum_below n (λ a. f (InHalf (Account a)) + f (OutHalf (Account a))) + f Supersink

-- For each two split nodes, how many units may be moved from the one to the other.
abbrev pub Rests : Type 0
Rests = SplitNode → SplitNode → ℕ

-- What an arc without a bound counts as: more than any flow needs.
abbrev pub unbounded : ℕ
unbounded = 4294967295

-- The split graph has an arc through each node, from each account to the supersink, and along each edge.
abbrev pub IsArc : Certificates → Level → SplitNode → SplitNode → Type 0
IsArc g level (InHalf x) (OutHalf y) = IsNode g.accounts x × (y ≡ x)
IsArc g level (InHalf x) Supersink = IsAccount g.accounts x
IsArc g level (OutHalf x) (InHalf (Account b)) = HasEdge g level x b
IsArc g level u v = ⊥

-- These are the capacities of the split graph's arcs: one less than the node's through a node, 1 to the supersink, and no
-- bound along an edge. Between two split nodes that no arc joins there is none.
pub record IsSplitGraph (g : Certificates) (level : Level) (cap : Node → ℕ) (c : Rests) : Type 0 where
  pub through : (x : Node) → IsNode g.accounts x → c (InHalf x) (OutHalf x) ≡ cap x - 1
  pub ends : (a : ℕ) → a < g.accounts → c (InHalf (Account a)) Supersink ≡ 1
  pub along : (x : Node) (b : ℕ) → HasEdge g level x b → c (OutHalf x) (InHalf (Account b)) ≡ unbounded
  pub only : (u v : SplitNode) → 0 < c u v → IsArc g level u v
