-- The lines of a flow, by place in their list, and the units on a pair.
use Rattle.std.proofs.Common.{ℕ, zero, suc, ◌≡◌, ◌<◌, ◌≤◌, ◌&&◌, ◌==◌, ◌⊎◌, List, [], ◌∷◌, length, slice_index_or, sum_by, inl, inr, refl, ap, arith, nat_lt, if◌then◌else◌}
use Rattle.std.proofs.lemmas.Bool.{cases_lt, cases_Bool, cond-true, cond-false, and_parts, and_from, or_cases, eqb-true, eq-eqb, ltb-true}
use Rattle.std.proofs.lemmas.List.Sums.{sum_by-cons, get_or-le-sum_by}
use Rattle.trust_types.specs.declared.accounts.Node.{Node}
use Rattle.trust_types.specs.declared.accounts.Node.TheVariants.{Root, Account}
use Rattle.trust_types.specs.declared.flows.FlowLine.{FlowLine}
use Rattle.trust_types.specs.Lines.{place, same_node, flow_of}
use Rattle.trust_types.specs.Lines.{IsLineBefore}

pub same_place : (x y : Node) → place x ≡ place y → x ≡ y
same_place Root Root e = refl
same_place Root (Account b) e = absurd (omega arith)
same_place (Account a) Root e = absurd (omega arith)
same_place (Account a) (Account b) e = ap Account (omega arith)

-- By giver, then by taker, as a fact.
pub before_pairs : (l m : FlowLine) → IsLineBefore l m → (place l.from < place m.from) ⊎ ((place l.from ≡ place m.from) × (l.to < m.to))
before_pairs l m before =
    elim (or_cases (nat_lt (place l.from) (place m.from)) (same_node l.from m.from && nat_lt l.to m.to) before) [
      | inl giver ↦ inl (ltb-true _ _ giver)
      | inr pair ↦
          let both = and_parts (same_node l.from m.from) (nat_lt l.to m.to) pair in
          inr (eqb-true _ _ both.0, ltb-true _ _ both.1)
    ]

-- What a line carries from x to b.
abbrev pub carried : Node → ℕ → FlowLine → ℕ
carried x b l = if same_node l.from x && (l.to == b) then l.units else 0

pub carried_here : (l : FlowLine) → carried l.from l.to l ≡ l.units
carried_here l =
    cond-true (same_node l.from l.from && (l.to == l.to)) l.units 0 (and_from _ _ (eq-eqb (place l.from) (place l.from) refl) (eq-eqb l.to l.to refl))

pub carried_pair : (x : Node) (b : ℕ) (l : FlowLine) → 0 < carried x b l → (l.from ≡ x) × (l.to ≡ b)
carried_pair x b l some = elim (cases_Bool (same_node l.from x && (l.to == b))) [
  | inl on ↦ let both = and_parts (same_node l.from x) (l.to == b) on in (same_place l.from x (eqb-true _ _ both.0), eqb-true _ _ both.1)
  | inr off ↦ absurd (omega (arith, cond-false (same_node l.from x && (l.to == b)) l.units 0 off))
]

-- Where a sum isn't 0, one of its parts isn't.
some_part : {X : Type 0} (f : X → ℕ) (xs : List X) → 0 < sum_by f xs →
    (k : ℕ) × (k < length xs) × ((d : X) → 0 < f (slice_index_or xs k d))
some_part f [] some = absurd (omega arith)
some_part f (x ∷ xs) some = elim (cases_lt 0 (f x)) [
  | inl here ↦ (zero, omega arith, λ d. here)
  | inr none ↦
      let rest = some_part f xs (omega (arith, sum_by-cons f x xs)) in
      (suc rest.0, omega (arith, rest.1), rest.2)
]

-- Where a pair has units, a line has them.
pub line_of_units : (lines : List FlowLine) (x : Node) (b : ℕ) → 0 < flow_of lines x b →
    (k : ℕ) × (k < length lines) × ((d : FlowLine) → ((slice_index_or lines k d).from ≡ x) × ((slice_index_or lines k d).to ≡ b))
line_of_units lines x b some =
    let part = some_part (carried x b) lines some in (part.0, part.1, λ d. carried_pair x b (slice_index_or lines part.0 d) (part.2 d))

-- A line's units are among those of its pair.
pub units-le-flow_of : (lines : List FlowLine) (k : ℕ) (d : FlowLine) → k < length lines →
    (slice_index_or lines k d).units ≤ flow_of lines (slice_index_or lines k d).from (slice_index_or lines k d).to
units-le-flow_of lines k d within =
    let l : FlowLine = slice_index_or lines k d in
    omega (arith, get_or-le-sum_by (carried l.from l.to) lines k d within, carried_here l)
