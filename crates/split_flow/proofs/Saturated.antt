-- A set of split nodes that nothing can be moved out of gives a cut whose value is the flow's total.
use Rattle.std.proofs.Common.{ℕ, Bool, true, false, ◌+◌, ◌≡◌, ◌≢◌, ◌<◌, inl, inr, refl, arith, ap, sym, subst, ◌∙◌}
use Rattle.std.proofs.lemmas.Bool.{cases_lt, cases_eq}
use Rattle.trust_types.specs.declared.levels.Level.{Level}
use Rattle.trust_types.specs.declared.accounts.Node.{Node}
use Rattle.trust_types.specs.declared.accounts.Node.TheVariants.{Root, Account}
use Rattle.trust_types.specs.declared.flows.Side.TheVariants.{Outside, Pass}
use Rattle.trust_types.specs.Sum.{sum_below}
use Rattle.trust_types.specs.Graph.{Certificates, HasEdge}
use Rattle.trust_types.specs.Flow.{Flow, units_in, units_out, total}
use Rattle.trust_types.specs.Cut.{IsCut, value, account_share, root_share}
use Rattle.trust_types.proofs.Sums.{sum_below-add, sum_below-swap, sum_below-eq, part-le-sum_below}
use Rattle.trust_types.proofs.Walks.{edge_within}
use Rattle.trust_types.proofs.Conservation.{total_is_root_units}
use Rattle.split_flow.specs.Split.{SplitNode, InHalf, OutHalf, Supersink, source, unbounded, IsNode}
use Rattle.split_flow.specs.Moved.{IsSaturated, side_of_halves, sides_of_reached, units_moved}
use Rattle.split_flow.proofs.Counted.{counted, counted_sum, counted_add, not_both}
use Rattle.split_flow.proofs.Halves.{Moves, through, back_to_account, none_to_itself, passed_on, room_through, room_to_sink, taken_in}
use Rattle.split_flow.proofs.Feasible.{CapacityPasses, feasible, on_edges, along_edge}

-- what these lemmas speak of: a saturated set after some moves, where out capacity comes near the bound
pub record Saturation : Type 0 where
  pub m : Moves
  pub passes : CapacityPasses m.g m.level m.cap
  pub small : (x : Node) → IsNode m.g.accounts x → m.cap x < unbounded
  pub reached : SplitNode → Bool
  pub saturated : IsSaturated m.r reached

-- a node sends less than the bound
sends_little : (s : Saturation) (x : Node) → IsNode s.m.g.accounts x → units_out s.m.g.accounts (units_moved s.m.r) x < unbounded
sends_little s x is = omega (arith, passed_on s.m x is, room_through s.m x is, s.small x is)

giver_is : (g : Certificates) (level : Level) (x : Node) (b : ℕ) → HasEdge g level x b → IsNode g.accounts x
giver_is g level Root b edge = tt
giver_is g level (Account a) b edge = edge.0

-- so more can be moved along each edge
pub still_passable : (s : Saturation) (x : Node) (b : ℕ) → HasEdge s.m.g s.m.level x b → 0 < s.m.r (OutHalf x) (InHalf (Account b))
still_passable s x b edge =
    omega (arith, along_edge s.m x b edge, sends_little s x (giver_is s.m.g s.m.level x b edge), part-le-sum_below s.m.g.accounts (units_moved s.m.r x) b (edge_within s.m.g s.m.level x b edge))

-- an edge out of a reached second half ends at a reached account
edge_reaches : (s : Saturation) (x : Node) (b : ℕ) → HasEdge s.m.g s.m.level x b → s.reached (OutHalf x) ≡ true → s.reached (InHalf (Account b)) ≡ true
edge_reaches s x b edge inside =
    s.saturated.closed (OutHalf x) (InHalf (Account b)) inside (still_passable s x b edge)

-- units came to a reached account from reached second halves alone
units_reach_back : (s : Saturation) (x : Node) (b : ℕ) → 0 < units_moved s.m.r x b → s.reached (InHalf (Account b)) ≡ true → s.reached (OutHalf x) ≡ true
units_reach_back s Root b some inside =
    s.saturated.closed (InHalf (Account b)) (OutHalf Root) inside some
units_reach_back s (Account a) b some inside =
    elim (cases_eq a b) [
      | inl same ↦
          let P : ℕ → Type 0 = λ k. units_moved s.m.r (Account k) b ≡ 0 in
          let none : units_moved s.m.r (Account a) b ≡ 0 = subst P (sym same) (none_to_itself s.m b) in
          absurd (omega arith)
      | inr other ↦ s.saturated.closed (InHalf (Account b)) (OutHalf (Account a)) inside (omega (arith, back_to_account s.m b a other))
    ]

same_count : (f : ℕ) (p q : Bool) → (0 < f → p ≡ true → q ≡ true) → (0 < f → q ≡ true → p ≡ true) → counted p f ≡ counted q f
same_count f true true there back = refl
same_count f false false there back = refl
same_count f true false there back =
    elim (cases_lt 0 f) [ inl some ↦ absurd (not_both false (there some refl) refl) | inr none ↦ omega arith ]
same_count f false true there back =
    elim (cases_lt 0 f) [ inl some ↦ absurd (not_both false (back some refl) refl) | inr none ↦ omega arith ]

counted_at_both : (s : Saturation) (x : Node) (b : ℕ) →
    counted (s.reached (InHalf (Account b))) (units_moved s.m.r x b) ≡ counted (s.reached (OutHalf x)) (units_moved s.m.r x b)
counted_at_both s x b =
    same_count (units_moved s.m.r x b) (s.reached (InHalf (Account b))) (s.reached (OutHalf x))
    (units_reach_back s x b)
    (λ some inside. edge_reaches s x b (on_edges s.m x b some) inside)

-- what came to the reached accounts is what reached second halves sent
into_reached : (s : Saturation) →
    sum_below s.m.g.accounts (λ b. counted (s.reached (InHalf (Account b))) (units_in s.m.g.accounts (units_moved s.m.r) b))
    ≡ counted (s.reached (OutHalf Root)) (units_out s.m.g.accounts (units_moved s.m.r) Root)
    + sum_below s.m.g.accounts (λ a. counted (s.reached (OutHalf (Account a))) (units_out s.m.g.accounts (units_moved s.m.r) (Account a)))
into_reached s =
    let n : ℕ = s.m.g.accounts in
    let f : Flow = units_moved s.m.r in
    let first : ℕ → Bool = λ b. s.reached (InHalf (Account b)) in
    let second : ℕ → Bool = λ a. s.reached (OutHalf (Account a)) in
    let from_account : (b : ℕ) → counted (first b) (sum_below n (λ a. f (Account a) b)) ≡ sum_below n (λ a. counted (second a) (f (Account a) b)) =
    λ b. sym (counted_sum n (λ a. f (Account a) b) (first b)) ∙ sum_below-eq n (λ a. counted (first b) (f (Account a) b)) (λ a. counted (second a) (f (Account a) b)) (λ a lt. counted_at_both s (Account a) b) in
    let each : sum_below n (λ b. counted (first b) (units_in n f b)) ≡ sum_below n (λ b. counted (s.reached (OutHalf Root)) (f Root b) + sum_below n (λ a. counted (second a) (f (Account a) b))) =
    sum_below-eq n (λ b. counted (first b) (units_in n f b)) (λ b. counted (s.reached (OutHalf Root)) (f Root b) + sum_below n (λ a. counted (second a) (f (Account a) b)))
    (λ b lt. omega (arith, counted_add (first b) (f Root b) (sum_below n (λ a. f (Account a) b)), counted_at_both s Root b, from_account b)) in
    let apart = sum_below-add n (λ b. counted (s.reached (OutHalf Root)) (f Root b)) (λ b. sum_below n (λ a. counted (second a) (f (Account a) b))) in
    let from_root = counted_sum n (f Root) (s.reached (OutHalf Root)) in
    let swapped = sum_below-swap n n (λ a b. counted (second a) (f (Account a) b)) in
    let outs : sum_below n (λ a. sum_below n (λ b. counted (second a) (f (Account a) b))) ≡ sum_below n (λ a. counted (second a) (units_out n f (Account a))) =
    sum_below-eq n (λ a. sum_below n (λ b. counted (second a) (f (Account a) b))) (λ a. counted (second a) (units_out n f (Account a)))
    (λ a lt. counted_sum n (f (Account a)) (second a)) in
    omega (arith, each, apart, from_root, swapped, outs)

-- a reached account is served
reached_served : (s : Saturation) (x : ℕ) → x < s.m.g.accounts → s.reached (InHalf (Account x)) ≡ true →
    units_in s.m.g.accounts (units_moved s.m.r) x ≡ units_out s.m.g.accounts (units_moved s.m.r) (Account x) + 1
reached_served s x below inside =
    let n : ℕ = s.m.g.accounts in
    elim (cases_lt 0 (s.m.r (InHalf (Account x)) Supersink)) [
      | inl some ↦ not_both (s.reached Supersink) (s.saturated.closed (InHalf (Account x)) Supersink inside some) s.saturated.stops
      | inr none ↦ omega (arith, taken_in s.m x below, room_to_sink s.m x below)
    ]

-- what an account adds to the value
share_by : (s : Saturation) (x : ℕ) → x < s.m.g.accounts → (p q : Bool) → s.reached (InHalf (Account x)) ≡ p → s.reached (OutHalf (Account x)) ≡ q →
    account_share (side_of_halves p q) (s.m.cap (Account x)) + counted q (units_out s.m.g.accounts (units_moved s.m.r) (Account x))
    ≡ counted p (units_in s.m.g.accounts (units_moved s.m.r) x)
share_by s x below true true e f = omega (arith, reached_served s x below e)
share_by s x below true false e f =
    let n : ℕ = s.m.g.accounts in
    let flow : Flow = units_moved s.m.r in
    let served : units_in n flow x ≡ units_out n flow (Account x) + 1 = reached_served s x below e in
    elim (cases_lt 0 (s.m.r (InHalf (Account x)) (OutHalf (Account x)))) [
      | inl some ↦ not_both (s.reached (OutHalf (Account x))) (s.saturated.closed (InHalf (Account x)) (OutHalf (Account x)) e some) f
      | inr none ↦
          elim (cases_lt 0 (s.m.cap (Account x))) [
            | inl capacity ↦ omega (arith, served, passed_on s.m (Account x) below, room_through s.m (Account x) below)
            | inr without ↦
                let nothing : units_in n flow x ≡ 0 = (feasible s.m s.passes).unreached x below (omega arith) in
                absurd (omega arith)
          ]
    ]
share_by s x below false false e f = omega arith
share_by s x below false true e f =
    elim (cases_lt 0 (through s.m.r (Account x))) [
      | inl some ↦ not_both (s.reached (InHalf (Account x))) (s.saturated.closed (OutHalf (Account x)) (InHalf (Account x)) f some) e
      | inr none ↦ omega (arith, passed_on s.m (Account x) below)
    ]

shares : (s : Saturation) →
    sum_below s.m.g.accounts (λ x. account_share (sides_of_reached s.reached (Account x)) (s.m.cap (Account x)))
    ≡ counted (s.reached (OutHalf Root)) (units_out s.m.g.accounts (units_moved s.m.r) Root)
shares s =
    let n : ℕ = s.m.g.accounts in
    let f : Flow = units_moved s.m.r in
    let share : ℕ → ℕ = λ x. account_share (sides_of_reached s.reached (Account x)) (s.m.cap (Account x)) in
    let sent : ℕ → ℕ = λ x. counted (s.reached (OutHalf (Account x))) (units_out n f (Account x)) in
    let got : ℕ → ℕ = λ x. counted (s.reached (InHalf (Account x))) (units_in n f x) in
    let each : sum_below n (λ x. share x + sent x) ≡ sum_below n got =
    sum_below-eq n (λ x. share x + sent x) got (λ x below. share_by s x below (s.reached (InHalf (Account x))) (s.reached (OutHalf (Account x))) refl refl) in
    omega (arith, each, sum_below-add n share sent, into_reached s)

by_root : (s : Saturation) (q : Bool) → s.reached (OutHalf Root) ≡ q →
    counted q (units_out s.m.g.accounts (units_moved s.m.r) Root) + root_share (side_of_halves true q) (s.m.cap Root) ≡ units_out s.m.g.accounts (units_moved s.m.r) Root
by_root s true e = omega arith
by_root s false e =
    elim (cases_lt 0 (s.m.r source (OutHalf Root))) [
      | inl some ↦ not_both (s.reached (OutHalf Root)) (s.saturated.closed source (OutHalf Root) s.saturated.starts some) e
      | inr none ↦ omega (arith, passed_on s.m Root tt, room_through s.m Root tt)
    ]

pub value_is_total : (s : Saturation) → value s.m.g s.m.cap (sides_of_reached s.reached) ≡ total s.m.g.accounts (units_moved s.m.r)
value_is_total s =
    let root : root_share (sides_of_reached s.reached Root) (s.m.cap Root) ≡ root_share (side_of_halves true (s.reached (OutHalf Root))) (s.m.cap Root) =
    ap (λ p. root_share (side_of_halves p (s.reached (OutHalf Root))) (s.m.cap Root)) s.saturated.starts in
    let all : total s.m.g.accounts (units_moved s.m.r) ≡ units_out s.m.g.accounts (units_moved s.m.r) Root =
    total_is_root_units s.m.g s.m.level s.m.cap (units_moved s.m.r) (feasible s.m s.passes) in
    omega (arith, shares s, by_root s (s.reached (OutHalf Root)) refl, root, all)

in_a_set : (q : Bool) → side_of_halves true q ≢ Outside
in_a_set true e = cc
in_a_set false e = cc

from_pass : (p q : Bool) → side_of_halves p q ≡ Pass → q ≡ true
from_pass true true e = refl
from_pass true false e = cc
from_pass false q e = cc

pub is_cut : (s : Saturation) → IsCut s.m.g s.m.level (sides_of_reached s.reached)
is_cut s =
    let P : SplitNode → Bool → Type 0 = λ u p. side_of_halves p (s.reached u) ≢ Outside in
    record {
      root = subst (P (OutHalf Root)) (sym s.saturated.starts) (in_a_set (s.reached (OutHalf Root)));
      closed = λ x b edge pass.
          let inside : s.reached (InHalf (Account b)) ≡ true = edge_reaches s x b edge (from_pass (s.reached (InHalf x)) (s.reached (OutHalf x)) pass) in
          subst (P (OutHalf (Account b))) (sym inside) (in_a_set (s.reached (OutHalf (Account b))));
    }
