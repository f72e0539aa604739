-- Of disjoint layers one has at most an even part of what all have.
use Rattle.std.proofs.Common.{ℕ, zero, suc, Bool, true, false, ◌+◌, ◌*◌, ◌==◌, ◌≡◌, ◌≢◌, ◌≤◌, ◌<◌, inl, inr, refl, arith, ap, sym, ◌∙◌}
use Rattle.std.proofs.lemmas.Bool.{cases_eq, cases_lt}
use Rattle.std.proofs.lemmas.Bool.Decides.{nat_tests}
use Rattle.std.proofs.lemmas.Nat.{mul-le}
use Rattle.trust_types.specs.Sum.{sum_below}
use Rattle.split_flow.specs.Split.{SplitNode, IsSplitNode, Rests, sum_nodes}
use Rattle.split_flow.specs.Moved.{out_of, leaving}
use Rattle.split_flow.proofs.NodeSums.{sum_nodes-add, sum_nodes-below, sum_nodes-eq, sum_nodes-le, sum_nodes-swap, sum_nodes-zero}
use Rattle.split_flow.proofs.Counted.{counted, uncounted, counted_nodes, counted_add}
use Rattle.layers.specs.Layers.{AreLayers, is_in_half, up_to}
use Rattle.layers.proofs.Passages.{into}

counted_le : (p : Bool) (k : ℕ) → counted p k ≤ k
counted_le true k = omega arith
counted_le false k = omega arith

uncounted_le : (p : Bool) (k : ℕ) → uncounted p k ≤ k
uncounted_le true k = omega arith
uncounted_le false k = omega arith

eq_yes : (a b : ℕ) → a ≡ b → (a == b) ≡ true
eq_yes a b same = grind (arith, nat_tests)

eq_no : (a b : ℕ) → a ≢ b → (a == b) ≡ false
eq_no a b other = grind (arith, nat_tests)

pub before-in : (layer : SplitNode → ℕ) (i : ℕ) (v : SplitNode) → layer v < i → up_to layer i v ≡ true
before-in layer i v less = grind (arith, nat_tests)

at-in : (layer : SplitNode → ℕ) (i : ℕ) (v : SplitNode) → layer v ≡ i → up_to layer i v ≡ is_in_half v
at-in layer i v same = grind (arith, nat_tests)

pub past-out : (layer : SplitNode → ℕ) (i : ℕ) (v : SplitNode) → i < layer v → up_to layer i v ≡ false
past-out layer i v more = grind (arith, nat_tests)

cover_at : (p q : Bool) (k other : ℕ) → counted p (uncounted q k) ≤ counted true (counted p k) + other
cover_at true true k other = omega arith
cover_at true false k other = omega arith
cover_at false q k other = omega arith

-- what leaves the set from one node to another leaves a first half of the layer, or enters a second half of it
pair-le : (r : Rests) (layer : SplitNode → ℕ) → AreLayers r layer → (i : ℕ) (u v : SplitNode) →
    counted (up_to layer i u) (uncounted (up_to layer i v) (r u v))
    ≤ counted (layer u == i) (counted (is_in_half u) (r u v)) + counted (layer v == i) (uncounted (is_in_half v) (r u v))
pair-le r layer are i u v =
    let k : ℕ = r u v in
    elim (cases_eq (layer u) i) [
      | inl at ↦ rw (at-in layer i u at, eq_yes (layer u) i at) (cover_at (is_in_half u) (up_to layer i v) k (counted (layer v == i) (uncounted (is_in_half v) k)))
      | inr other ↦
          elim (cases_lt (layer u) i) [
            | inl before ↦
                elim (cases_eq (layer v) i) [
                  | inl at ↦ rw (before-in layer i u before, at-in layer i v at, eq_yes (layer v) i at) (omega arith)
                  | inr apart ↦
                      elim (cases_lt (layer v) i) [
                        | inl less ↦ rw (before-in layer i u before, before-in layer i v less) (omega arith)
                        | inr more ↦
                            let none : k ≡ 0 = elim (cases_lt 0 k) [ inl some ↦ absurd (omega (arith, are.next u v some)) | inr nothing ↦ omega arith ] in
                            let small : counted (up_to layer i u) (uncounted (up_to layer i v) k) ≤ k = omega (arith, counted_le (up_to layer i u) (uncounted (up_to layer i v) k), uncounted_le (up_to layer i v) k) in
                            omega (arith, small, none)
                      ]
                ]
            | inr more ↦ rw (past-out layer i u (omega arith)) (omega arith)
          ]
    ]

-- what a split node lets through: a half by which units come in by what leaves it, another one by what enters it
abbrev pub passage : ℕ → Rests → SplitNode → ℕ
passage n r v = counted (is_in_half v) (out_of n r v) + uncounted (is_in_half v) (into n r v)

uncounted_nodes : (n : ℕ) (f : SplitNode → ℕ) (p : Bool) → sum_nodes n (λ u. uncounted p (f u)) ≡ uncounted p (sum_nodes n f)
uncounted_nodes n f true = sum_nodes-zero n
uncounted_nodes n f false = refl

counted_twice : (n : ℕ) (f : SplitNode → ℕ) (p q : Bool) → sum_nodes n (λ u. counted p (counted q (f u))) ≡ counted p (counted q (sum_nodes n f))
counted_twice n f p q = counted_nodes n (λ u. counted q (f u)) p ∙ ap (counted p) (counted_nodes n f q)

counted_then : (n : ℕ) (f : SplitNode → ℕ) (p q : Bool) → sum_nodes n (λ u. counted p (uncounted q (f u))) ≡ counted p (uncounted q (sum_nodes n f))
counted_then n f p q = counted_nodes n (λ u. uncounted q (f u)) p ∙ ap (counted p) (uncounted_nodes n f q)

le_of : (a b k : ℕ) → a ≡ b → a ≤ k → b ≤ k
le_of a b k same le = omega arith

le_by : (a b k : ℕ) → a ≤ b → b ≡ k → a ≤ k
le_by a b k le same = omega arith

sum_of : (a b p q : ℕ) → a ≡ p → b ≡ q → a + b ≡ p + q
sum_of a b p q e f = omega arith

-- so much leaves the set as the layer lets through
leaving-le : (n : ℕ) (r : Rests) (layer : SplitNode → ℕ) (i : ℕ) → AreLayers r layer → leaving n (up_to layer i) r ≤ sum_nodes n (λ v. counted (layer v == i) (passage n r v))
leaving-le n r layer i are =
    let s : SplitNode → Bool = up_to layer i in
    let here : SplitNode → Bool = λ v. layer v == i in
    let out_term : SplitNode → SplitNode → ℕ = λ u v. counted (here u) (counted (is_in_half u) (r u v)) in
    let in_term : SplitNode → SplitNode → ℕ = λ u v. counted (here v) (uncounted (is_in_half v) (r u v)) in
    let outs : SplitNode → ℕ = λ u. counted (here u) (counted (is_in_half u) (out_of n r u)) in
    let ins : SplitNode → ℕ = λ v. counted (here v) (uncounted (is_in_half v) (into n r v)) in
    let row_le : (u : SplitNode) → counted (s u) (sum_nodes n (λ v. uncounted (s v) (r u v))) ≤ sum_nodes n (λ v. out_term u v + in_term u v) =
    λ u. le_of (sum_nodes n (λ v. counted (s u) (uncounted (s v) (r u v)))) (counted (s u) (sum_nodes n (λ v. uncounted (s v) (r u v)))) (sum_nodes n (λ v. out_term u v + in_term u v))
    (counted_nodes n (λ v. uncounted (s v) (r u v)) (s u))
    (sum_nodes-le n (λ v. counted (s u) (uncounted (s v) (r u v))) (λ v. out_term u v + in_term u v) (λ v is. pair-le r layer are i u v)) in
    let all_le : leaving n s r ≤ sum_nodes n (λ u. sum_nodes n (λ v. out_term u v + in_term u v)) =
    sum_nodes-le n (λ u. counted (s u) (sum_nodes n (λ v. uncounted (s v) (r u v)))) (λ u. sum_nodes n (λ v. out_term u v + in_term u v)) (λ u is. row_le u) in
    let parts : sum_nodes n (λ u. sum_nodes n (λ v. out_term u v + in_term u v)) ≡ sum_nodes n (λ u. sum_nodes n (out_term u)) + sum_nodes n (λ u. sum_nodes n (in_term u)) =
    sum_nodes-eq n (λ u. sum_nodes n (λ v. out_term u v + in_term u v)) (λ u. sum_nodes n (out_term u) + sum_nodes n (in_term u)) (λ u is. sum_nodes-add n (out_term u) (in_term u))
    ∙ sum_nodes-add n (λ u. sum_nodes n (out_term u)) (λ u. sum_nodes n (in_term u)) in
    let all_out : sum_nodes n (λ u. sum_nodes n (out_term u)) ≡ sum_nodes n outs =
    sum_nodes-eq n (λ u. sum_nodes n (out_term u)) outs (λ u is. counted_twice n (r u) (here u) (is_in_half u)) in
    let all_in : sum_nodes n (λ u. sum_nodes n (in_term u)) ≡ sum_nodes n ins =
    sym (sum_nodes-swap n in_term)
    ∙ sum_nodes-eq n (λ v. sum_nodes n (λ u. in_term u v)) ins (λ v is. counted_then n (λ u. r u v) (here v) (is_in_half v)) in
    let joined : sum_nodes n (λ v. counted (here v) (passage n r v)) ≡ sum_nodes n outs + sum_nodes n ins =
    sum_nodes-eq n (λ v. counted (here v) (passage n r v)) (λ v. outs v + ins v)
    (λ v is. counted_add (here v) (counted (is_in_half v) (out_of n r v)) (uncounted (is_in_half v) (into n r v)))
    ∙ sum_nodes-add n outs ins in
    let same : sum_nodes n (λ u. sum_nodes n (λ v. out_term u v + in_term u v)) ≡ sum_nodes n (λ v. counted (here v) (passage n r v)) =
    parts
    ∙ sum_of (sum_nodes n (λ u. sum_nodes n (out_term u))) (sum_nodes n (λ u. sum_nodes n (in_term u))) (sum_nodes n outs) (sum_nodes n ins) all_out all_in
    ∙ sym joined in
    le_by (leaving n s r) (sum_nodes n (λ u. sum_nodes n (λ v. out_term u v + in_term u v))) (sum_nodes n (λ v. counted (here v) (passage n r v))) all_le same

-- a number is in none of the layers before its own
none_before : (d l k : ℕ) → d < l → sum_below d (λ i. counted (l == i + 1) k) ≡ 0
none_before zero l k less = refl
none_before (suc d) l k less =
    let other : counted (l == d + 1) k ≡ 0 = ap (λ b. counted b k) (eq_no l (d + 1) (omega arith)) in
    omega (arith, none_before d l k (omega arith), other)

-- and in one of the first d at most
in_one : (d l k w : ℕ) → (0 < l → l ≤ d → k ≤ w) → sum_below d (λ i. counted (l == i + 1) k) ≤ w
in_one zero l k w le = omega arith
in_one (suc d) l k w le =
    elim (cases_eq l (d + 1)) [
      | inl same ↦
          let here : counted (l == d + 1) k ≡ k = ap (λ b. counted b k) (eq_yes l (d + 1) same) in
          omega (arith, none_before d l k (omega arith), here, le (omega arith) (omega arith))
      | inr other ↦
          let none : counted (l == d + 1) k ≡ 0 = ap (λ b. counted b k) (eq_no l (d + 1) other) in
          omega (arith, none, in_one d l k w (λ some few. le some (omega arith)))
    ]

times_suc : (a b : ℕ) → a * suc b ≡ a * b + a
times_suc a b = omega arith

-- of d parts one is at most the d-th part of the sum
even_part : (d : ℕ) (f : ℕ → ℕ) → 0 < d → (i : ℕ) × (i < d) × (f i * d ≤ sum_below d f)
even_part zero f some = absurd (omega arith)
even_part (suc zero) f some = (0, omega arith, omega arith)
even_part (suc (suc d)) f some =
    let before = even_part (suc d) f (omega arith) in
    let i : ℕ = before.0 in
    elim (cases_lt (f i) (f (suc d))) [
      | inl less ↦ (i, omega (arith, before.1), omega (arith, before.2, times_suc (f i) (suc d)))
      | inr more ↦ (suc d, omega arith, omega (arith, before.2, times_suc (f (suc d)) (suc d), mul-le (f (suc d)) (suc d) (f i) (suc d) (omega arith) (omega arith)))
    ]

-- the layers let through what their nodes do, each of them once
layers-le : (n : ℕ) (r : Rests) (layer : SplitNode → ℕ) (d : ℕ) (weight : SplitNode → ℕ) → ((v : SplitNode) → IsSplitNode n v → 0 < layer v → layer v ≤ d → passage n r v ≤ weight v) →
    sum_below d (λ i. sum_nodes n (λ v. counted (layer v == i + 1) (passage n r v))) ≤ sum_nodes n weight
layers-le n r layer d weight le =
    let at : ℕ → SplitNode → ℕ = λ i v. counted (layer v == i + 1) (passage n r v) in
    le_of (sum_nodes n (λ v. sum_below d (λ i. at i v))) (sum_below d (λ i. sum_nodes n (at i))) (sum_nodes n weight)
    (sum_nodes-below n d at)
    (sum_nodes-le n (λ v. sum_below d (λ i. at i v)) weight (λ v is. in_one d (layer v) (passage n r v) (weight v) (le v is)))

chain : (a b s w : ℕ) → a ≤ b → b ≤ s → s ≤ w → a ≤ w
chain a b s w e f h = omega arith

-- one of the first d layers lets at most the d-th part of all weights through
pub cut : (n : ℕ) (r : Rests) (layer : SplitNode → ℕ) (d : ℕ) (weight : SplitNode → ℕ) → AreLayers r layer → 0 < d →
    ((v : SplitNode) → IsSplitNode n v → 0 < layer v → layer v ≤ d → passage n r v ≤ weight v) →
    (i : ℕ) × (0 < i) × (i ≤ d) × (leaving n (up_to layer i) r * d ≤ sum_nodes n weight)
cut n r layer d weight are some le =
    let through : ℕ → ℕ = λ i. sum_nodes n (λ v. counted (layer v == i + 1) (passage n r v)) in
    let part = even_part d through some in
    let i : ℕ = part.0 + 1 in
    let few = mul-le (leaving n (up_to layer i) r) d (through part.0) d (leaving-le n r layer i are) (omega arith) in
    (i, omega arith, omega (arith, part.1), chain (leaving n (up_to layer i) r * d) (through part.0 * d) (sum_below d through) (sum_nodes n weight) few part.2 (layers-le n r layer d weight le))
