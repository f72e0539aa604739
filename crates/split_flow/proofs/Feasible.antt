-- The units that were moved along the edges are a feasible flow.
use Rattle.std.proofs.Common.{ℕ, ◌≡◌, ◌≢◌, ◌<◌, ◌+◌, ◌⊎◌, inl, inr, arith, ap, sym, subst, ◌∙◌}
use Rattle.std.proofs.lemmas.Bool.{cases_lt}
use Rattle.trust_types.specs.declared.levels.Level.{Level}
use Rattle.trust_types.specs.declared.accounts.Node.{Node}
use Rattle.trust_types.specs.declared.accounts.Node.TheVariants.{Root, Account}
use Rattle.trust_types.specs.Sum.{sum_below}
use Rattle.trust_types.specs.Graph.{Certificates, HasEdge}
use Rattle.trust_types.specs.Flow.{Flow, IsFeasible, IsServed, PassesAllOn, units_in}
use Rattle.trust_types.specs.Roster.{ServesConduits}
use Rattle.trust_types.proofs.Sums.{sum_below-zero, sum_below-eq, part-le-sum_below}
use Rattle.split_flow.specs.Split.{InHalf, OutHalf, unbounded, IsNode}
use Rattle.split_flow.specs.Moved.{PassesServed, units_moved}
use Rattle.split_flow.specs.Laws.{NoneToItself}
use Rattle.split_flow.proofs.Nodes.{number}
use Rattle.split_flow.proofs.Halves.{Moves, taken_from, zero_cap, to_other_half, back_to_account, none_to_itself, passed_on, room_through, room_to_sink, taken_in}

-- An account that one with capacity certifies has capacity itself.
pub record CapacityPasses (g : Certificates) (level : Level) (cap : Node → ℕ) : Type 0 where
  pub root : 0 < cap Root
  pub along : (x : Node) (b : ℕ) → HasEdge g level x b → 0 < cap x → 0 < cap (Account b)

-- an edge doesn't end where it began
pub edge_apart : (g : Certificates) (level : Level) → NoneToItself g level → (x : Node) (b : ℕ) → HasEdge g level x b → x ≢ Account b
edge_apart g level none Root b edge same = absurd (cc)
edge_apart g level none (Account a) b edge same = none a (subst (λ (k : ℕ). HasEdge g level (Account a) k) (sym (ap number same)) edge)

-- units that may be moved back along an arc between two nodes
back_along : (m : Moves) (x : Node) (b : ℕ) → x ≢ Account b → m.r (InHalf (Account b)) (OutHalf x) ≡ units_moved m.r x b
back_along m Root b other = omega arith
back_along m (Account a) b other = back_to_account m b a (λ same. other (ap Account same))

-- what was moved along an edge, and what still may be, is what its capacity allows
pub there_and_back : (m : Moves) (x : Node) (b : ℕ) → x ≢ Account b → m.r (OutHalf x) (InHalf (Account b)) + units_moved m.r x b ≡ m.c (OutHalf x) (InHalf (Account b))
there_and_back m x b other =
    omega (arith, back_along m x b other, m.moved.both (OutHalf x) (InHalf (Account b)), zero_cap m (InHalf (Account b)) (OutHalf x) (to_other_half m.g m.level (Account b) x other))

pub along_edge : (m : Moves) (x : Node) (b : ℕ) → HasEdge m.g m.level x b → m.r (OutHalf x) (InHalf (Account b)) + units_moved m.r x b ≡ unbounded
along_edge m x b edge = there_and_back m x b (edge_apart m.g m.level m.no_self x b edge) ∙ m.split.along x b edge

pub on_edges : (m : Moves) (x : Node) (b : ℕ) → 0 < units_moved m.r x b → HasEdge m.g m.level x b
on_edges m x b some =
    let other : x ≢ Account b = λ same. absurd (omega (arith, none_to_itself m b, subst (λ (y : Node). 0 < units_moved m.r y b) same some)) in
    m.split.only (OutHalf x) (InHalf (Account b)) (omega (arith, there_and_back m x b other))

balanced : (m : Moves) (x : ℕ) → x < m.g.accounts → IsServed m.g.accounts (units_moved m.r) x ⊎ PassesAllOn m.g.accounts (units_moved m.r) x
balanced m x below =
    elim (cases_lt 0 (taken_from m.r x)) [
      | inl some ↦ inl (omega (arith, taken_in m x below, room_to_sink m x below))
      | inr none ↦ inr (omega (arith, taken_in m x below))
    ]

-- a node that sends units has capacity
pub sends : (m : Moves) → CapacityPasses m.g m.level m.cap → (x : Node) (b : ℕ) → b < m.g.accounts → IsNode m.g.accounts x → 0 < units_moved m.r x b → 0 < m.cap x
sends m passes Root b below is some = passes.root
sends m passes (Account a) b below is some =
    omega (arith, room_through m (Account a) is, passed_on m (Account a) is, part-le-sum_below m.g.accounts (units_moved m.r (Account a)) b below)

none_sent : (m : Moves) → CapacityPasses m.g m.level m.cap → (x : Node) (b : ℕ) → b < m.g.accounts → IsNode m.g.accounts x → m.cap (Account b) ≡ 0 → units_moved m.r x b ≡ 0
none_sent m passes x b below is none =
    elim (cases_lt 0 (units_moved m.r x b)) [
      | inl some ↦
          let positive : 0 < m.cap (Account b) = passes.along x b (on_edges m x b some) (sends m passes x b below is some) in
          absurd (omega arith)
      | inr zero ↦ omega arith
    ]

unreached : (m : Moves) → CapacityPasses m.g m.level m.cap → (x : ℕ) → x < m.g.accounts → m.cap (Account x) ≡ 0 → units_in m.g.accounts (units_moved m.r) x ≡ 0
unreached m passes x below none =
    let n : ℕ = m.g.accounts in
    let f : Flow = units_moved m.r in
    let each : sum_below n (λ a. f (Account a) x) ≡ sum_below n (λ _. 0) =
    sum_below-eq n (λ a. f (Account a) x) (λ _. 0) (λ a lt. none_sent m passes (Account a) x below lt none) in
    omega (arith, each, none_sent m passes Root x below tt none, sum_below-zero n)

pub feasible : (m : Moves) → CapacityPasses m.g m.level m.cap → IsFeasible m.g m.level m.cap (units_moved m.r)
feasible m passes = record {
  edges = on_edges m;
  served = balanced m;
  root = omega (arith, passed_on m Root tt, room_through m Root tt);
  room = λ x below. omega (arith, passed_on m (Account x) below, room_through m (Account x) below);
  unreached = unreached m passes;
}

pub conduits : (m : Moves) → PassesServed m.r → ServesConduits m.g.accounts (units_moved m.r)
conduits m served x below some =
    omega (arith, served x (omega (arith, passed_on m (Account x) below)), passed_on m (Account x) below, taken_in m x below, room_to_sink m x below)
