-- What the halves of a node that can be reached let through, by its capacity.
use Rattle.std.proofs.Common.{ℕ, zero, suc, ◌+◌, ◌-◌, ◌≡◌, ◌<◌, inl, inr, arith, ap, sym, subst}
use Rattle.std.proofs.lemmas.Bool.{cases_lt}
use Rattle.trust_types.specs.declared.accounts.Node.{Node}
use Rattle.trust_types.specs.declared.accounts.Node.TheVariants.{Root, Account}
use Rattle.trust_types.specs.Sum.{sum_below}
use Rattle.trust_types.specs.Flow.{Flow}
use Rattle.trust_types.proofs.Sums.{sum_below-eq}
use Rattle.split_flow.specs.Split.{SplitNode, InHalf, OutHalf, Supersink, source, Rests, IsArc, sum_nodes}
use Rattle.split_flow.specs.Moved.{out_of, units_moved}
use Rattle.split_flow.proofs.Sums.{sum_below-point}
use Rattle.split_flow.proofs.NodeSums.{halves}
use Rattle.split_flow.proofs.Halves.{Moves, zero_rest, to_other_half, back_to_account, none_to_itself, passed_on, room_through, first_capacity, taken_in}
use Rattle.split_flow.proofs.Feasible.{CapacityPasses, edge_apart, sends, feasible}
use Rattle.layers.specs.Layers.{WalkTo}

-- what may be moved into a split node
abbrev pub into : ℕ → Rests → SplitNode → ℕ
into n r v = sum_nodes n (λ u. r u v)

-- if a split node is a half of a node, that one has capacity
abbrev HasCapacity : (Node → ℕ) → SplitNode → Type 0
HasCapacity cap (InHalf x) = 0 < cap x
HasCapacity cap (OutHalf x) = 0 < cap x
HasCapacity cap Supersink = Unit {0}

-- along an arc
goes_on : (m : Moves) → CapacityPasses m.g m.level m.cap → (u v : SplitNode) → IsArc m.g m.level u v → HasCapacity m.cap u → HasCapacity m.cap v
goes_on m passes (InHalf x) (InHalf y) arc has = absurd arc
goes_on m passes (InHalf x) (OutHalf y) (is, same) has = subst (λ (z : Node). 0 < m.cap z) (sym same) has
goes_on m passes (InHalf x) Supersink arc has = tt
goes_on m passes (OutHalf x) (InHalf Root) arc has = absurd arc
goes_on m passes (OutHalf x) (InHalf (Account b)) edge has = passes.along x b edge has
goes_on m passes (OutHalf x) (OutHalf y) arc has = absurd arc
goes_on m passes (OutHalf x) Supersink arc has = absurd arc
goes_on m passes Supersink v arc has = absurd arc

-- an account from which the supersink took a unit has capacity
taken-has : (m : Moves) → CapacityPasses m.g m.level m.cap → (x : ℕ) → x < m.g.accounts → 0 < m.r Supersink (InHalf (Account x)) → 0 < m.cap (Account x)
taken-has m passes x below some =
    elim (cases_lt 0 (m.cap (Account x))) [
      | inl positive ↦ positive
      | inr none ↦ absurd (omega (arith, taken_in m x below, (feasible m passes).unreached x below (omega arith)))
    ]

-- and back along one
goes_back : (m : Moves) → CapacityPasses m.g m.level m.cap → (u v : SplitNode) → IsArc m.g m.level v u → 0 < m.r u v → HasCapacity m.cap u → HasCapacity m.cap v
goes_back m passes (InHalf y) (InHalf x) arc some has = absurd arc
goes_back m passes (OutHalf y) (InHalf x) (is, same) some has = subst (λ (z : Node). 0 < m.cap z) same has
goes_back m passes Supersink (InHalf Root) arc some has = absurd arc
goes_back m passes Supersink (InHalf (Account a)) below some has = taken-has m passes a below some
goes_back m passes (InHalf Root) (OutHalf x) arc some has = absurd arc
goes_back m passes (InHalf (Account b)) (OutHalf Root) edge some has = passes.root
goes_back m passes (InHalf (Account b)) (OutHalf (Account a)) edge some has =
    sends m passes (Account a) b edge.1 edge.0 (omega (arith, some, back_to_account m b a (λ same. edge_apart m.g m.level m.no_self (Account a) b edge (ap Account same))))
goes_back m passes (OutHalf y) (OutHalf x) arc some has = absurd arc
goes_back m passes Supersink (OutHalf x) arc some has = absurd arc
goes_back m passes u Supersink arc some has = tt

-- all that a walk gets to
pub walk-has : (m : Moves) → CapacityPasses m.g m.level m.cap → (k : ℕ) (v : SplitNode) → WalkTo m.r k v → HasCapacity m.cap v
walk-has m passes zero v at = subst (HasCapacity m.cap) (sym at) passes.root
walk-has m passes (suc k) v (u, walk, some) =
    let before = walk-has m passes k u walk in
    elim (cases_lt 0 (m.c u v)) [
      | inl there ↦ goes_on m passes u v (m.split.only u v there) before
      | inr none ↦ goes_back m passes u v (m.split.only v u (omega (arith, m.moved.both u v))) some before
    ]

-- out of an account's first half, as much as its capacity
pub first-passage : (m : Moves) (x : ℕ) → x < m.g.accounts → 0 < m.cap (Account x) → out_of m.g.accounts m.r (InHalf (Account x)) ≡ m.cap (Account x)
first-passage m x below some = omega (arith, m.moved.kept (InHalf (Account x)) below, first_capacity m x below)

-- into its second half, one less
pub second-passage : (m : Moves) (x : ℕ) → x < m.g.accounts → into m.g.accounts m.r (OutHalf (Account x)) ≡ m.cap (Account x) - 1
second-passage m x below =
    let n : ℕ = m.g.accounts in
    let v : SplitNode = OutHalf (Account x) in
    let f : Flow = units_moved m.r in
    let from_root : m.r source v ≡ 0 = zero_rest m source v (to_other_half m.g m.level Root (Account x) (λ e. cc)) (λ no. no) in
    let from_root_second : m.r (OutHalf Root) v ≡ 0 = zero_rest m (OutHalf Root) v (λ no. no) (λ no. no) in
    let from_sink : m.r Supersink v ≡ 0 = zero_rest m Supersink v (λ no. no) (λ no. no) in
    let seconds : (a : ℕ) → m.r (OutHalf (Account a)) v ≡ 0 = λ a. zero_rest m (OutHalf (Account a)) v (λ no. no) (λ no. no) in
    let middle : sum_below n (halves (λ u. m.r u v)) ≡ sum_below n (f (Account x)) + m.r (InHalf (Account x)) v =
    sum_below-point n (halves (λ u. m.r u v)) (f (Account x)) x (m.r (InHalf (Account x)) v) below
    (λ a lt other. omega (arith, seconds a, back_to_account m a x (λ same. other (sym same))))
    (omega (arith, seconds x, none_to_itself m x)) in
    omega (arith, from_root, from_root_second, from_sink, middle, passed_on m (Account x) below, room_through m (Account x) below)

-- and into the root's, one less than the root's
pub root-passage : (m : Moves) → into m.g.accounts m.r (OutHalf Root) ≡ m.cap Root - 1
root-passage m =
    let n : ℕ = m.g.accounts in
    let v : SplitNode = OutHalf Root in
    let f : Flow = units_moved m.r in
    let from_self : m.r v v ≡ 0 = zero_rest m v v (λ no. no) (λ no. no) in
    let from_sink : m.r Supersink v ≡ 0 = zero_rest m Supersink v (λ no. no) (λ no. no) in
    let seconds : (a : ℕ) → m.r (OutHalf (Account a)) v ≡ 0 = λ a. zero_rest m (OutHalf (Account a)) v (λ no. no) (λ no. no) in
    let middle : sum_below n (halves (λ u. m.r u v)) ≡ sum_below n (f Root) =
    sum_below-eq n (halves (λ u. m.r u v)) (f Root) (λ a lt. omega (arith, seconds a)) in
    omega (arith, from_self, from_sink, middle, passed_on m Root tt, room_through m Root tt)
