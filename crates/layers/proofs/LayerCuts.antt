-- One of the first layers lets at most an even part of all capacities through.
use Rattle.std.proofs.Common.{ℕ, Bool, ◌+◌, ◌*◌, ◌/◌, ◌≡◌, ◌≤◌, ◌<◌, arith}
use Rattle.std.proofs.lemmas.Nat.{le-div}
use Rattle.trust_types.specs.declared.accounts.Node.{Node}
use Rattle.trust_types.specs.declared.accounts.Node.TheVariants.{Root, Account}
use Rattle.trust_types.proofs.Sums.{sum_below-add}
use Rattle.split_flow.specs.Split.{SplitNode, InHalf, OutHalf, Supersink, source, IsSplitNode, sum_nodes}
use Rattle.split_flow.specs.Moved.{leaving}
use Rattle.split_flow.proofs.Halves.{Moves}
use Rattle.split_flow.proofs.Feasible.{CapacityPasses}
use Rattle.split_flow.proofs.Capacities.{capacity_passes}
use Rattle.split_flow.proofs.Balance.{missing_at_most_leaving}
use Rattle.layers.specs.Layers.{AreByDistance, up_to}
use Rattle.layers.specs.PhaseBound.{capacity_sum}
use Rattle.layers.specs.Laws.{LayerCut, FewAreMissing}
use Rattle.layers.proofs.Cutting.{passage, before-in, past-out, cut}
use Rattle.layers.proofs.Passages.{walk-has, first-passage, second-passage, root-passage}

-- what each split node between the first and the last lets through at most
abbrev weight : (Node → ℕ) → SplitNode → ℕ
weight cap (InHalf Root) = 0
weight cap (InHalf (Account a)) = cap (Account a)
weight cap (OutHalf x) = cap x
weight cap Supersink = 0

weights : (n : ℕ) (cap : Node → ℕ) → sum_nodes n (weight cap) ≡ capacity_sum n cap
weights n cap = omega (arith, sum_below-add n (λ a. cap (Account a)) (λ a. cap (Account a)))

passage-le : (m : Moves) (layer : SplitNode → ℕ) (d : ℕ) → CapacityPasses m.g m.level m.cap → AreByDistance m.r layer → d + 1 < layer Supersink →
    (v : SplitNode) → IsSplitNode m.g.accounts v → 0 < layer v → layer v ≤ d → passage m.g.accounts m.r v ≤ weight m.cap v
passage-le m layer d passes are far (InHalf Root) is some few = absurd (omega (arith, are.layers.starts))
passage-le m layer d passes are far (InHalf (Account a)) is some few =
    let v : SplitNode = InHalf (Account a) in
    omega (arith, first-passage m a is (walk-has m passes (layer v) v (are.near v (omega arith))))
passage-le m layer d passes are far (OutHalf Root) is some few = omega (arith, root-passage m)
passage-le m layer d passes are far (OutHalf (Account a)) is some few = omega (arith, second-passage m a is)
passage-le m layer d passes are far Supersink is some few = absurd (omega arith)

le_by : (a b k : ℕ) → a ≤ b → b ≡ k → a ≤ k
le_by a b k le same = omega arith

pub layer_cut : LayerCut
layer_cut g level table cap c r layer d is_table capacities no_self split moved are some far =
    let m : Moves = record { g = g; level = level; cap = cap; c = c; r = r; split = split; moved = moved; no_self = no_self } in
    let passes : CapacityPasses g level cap = capacity_passes g level table cap is_table capacities in
    let found = cut g.accounts r layer d (weight cap) are.layers some (passage-le m layer d passes are far) in
    let set : SplitNode → Bool = up_to layer found.0 in (
      found.0,
      found.1,
      found.2,
      le-div (leaving g.accounts set r) (capacity_sum g.accounts cap) d some
          (le_by (leaving g.accounts set r * d) (sum_nodes g.accounts (weight cap)) (capacity_sum g.accounts cap) found.3 (weights g.accounts cap)),
    )

at_most : (a b l q : ℕ) → a ≤ b + l → l ≤ q → a ≤ b + q
at_most a b l q e f = omega arith

pub few_are_missing : FewAreMissing
few_are_missing g level table cap c r more layer d sent sent_more is_table capacities no_self split moved others are some far sends sends_more =
    let n : ℕ = g.accounts in
    let found = layer_cut g level table cap c r layer d is_table capacities no_self split moved are some far in
    let i : ℕ = found.0 in
    let first : layer source < i = omega (arith, found.1, are.layers.starts) in
    let last : i < layer Supersink = omega (arith, found.2) in
    at_most sent_more sent (leaving n (up_to layer i) r) (capacity_sum n cap / d)
    (missing_at_most_leaving n c r more (up_to layer i) sent sent_more moved others (before-in layer i source first) (past-out layer i Supersink last) sends sends_more)
    found.3
