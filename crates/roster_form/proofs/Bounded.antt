-- Proven rosters keep to the bound on an attack.
use Rattle.std.proofs.Common.{ℕ, zero, suc, Bool, true, ◌+◌, ◌-◌, ◌≡◌, ◌<◌, ◌≤◌, ◌==◌, ◌&&◌, List, [], ◌∷◌, length, get_or, count_by, All, AllPairs, inl, inr, refl, subst, ap, arith, cond}
use Rattle.std.specs.List.Sorted.{IsStrictlyIncreasing}
use Rattle.std.proofs.lemmas.Bool.{cases_lt, cases_Bool, cond-true, cond-false, eq-eqb, ne_eqb, and_from}
use Rattle.std.proofs.lemmas.List.Elements.{All-head, All-tail, Contains-get_or}
use Rattle.std.proofs.lemmas.List.{get_or_default}
use Rattle.std.proofs.lemmas.List.Sums.{sum_by-cons}
use Rattle.trust_types.specs.declared.levels.Level.{Level}
use Rattle.trust_types.specs.declared.accounts.Node.{Node}
use Rattle.trust_types.specs.declared.accounts.Node.TheVariants.{Account}
use Rattle.trust_types.specs.Sum.{sum_below}
use Rattle.trust_types.specs.Tables.{Table}
use Rattle.trust_types.specs.Graph.{Certificates}
use Rattle.trust_types.specs.Flow.{Flow, IsFeasible, IsServed, is_served, units_in, units_out}
use Rattle.trust_types.specs.Boundary.{Members}
use Rattle.trust_types.specs.Lines.{flow_of}
use Rattle.trust_types.specs.Proven.{Lists, IsProven}
use Rattle.trust_types.proofs.Sums.{sum_below-eq}
use Rattle.trust_types.proofs.Walks.{capacities_unique}
use Rattle.trust_types.proofs.BoundaryBound.{served_at_most_bound}
use Rattle.roster_form.specs.Bounded.{IsBounded}

abbrev without : ℕ → (ℕ → ℕ) → ℕ → ℕ
without x f y = cond (y == x) 0 (f y)

-- one part taken out of a sum
sum_below-without : (n x : ℕ) (f : ℕ → ℕ) → x < n → sum_below n (without x f) + f x ≡ sum_below n f
sum_below-without zero x f below = absurd (omega arith)
sum_below-without (suc n) x f below = elim (cases_lt x n) [
  | inl before ↦ omega (arith, sum_below-without n x f before, cond-false (n == x) 0 (f n) (ne_eqb n x (λ same. omega arith)))
  | inr last ↦
      let here : n ≡ x = omega arith in
      let rest : sum_below n (without x f) ≡ sum_below n f = sum_below-eq n (without x f) f (λ y lt. cond-false (y == x) 0 (f y) (ne_eqb y x (λ same. omega arith))) in
      omega (arith, rest, cond-true (n == x) 0 (f n) (eq-eqb n x here), ap f here)
]

still : (y x v : ℕ) → x < y → 0 < v → 0 < cond (y == x) 0 v
still y x v less some = omega (arith, cond-false (y == x) 0 v (ne_eqb y x (λ same. omega arith)), some)

-- The numbers of a list without doubles that pass a test are at most as many as a sum that has a part for each.
count_within : (n : ℕ) (p : ℕ → Bool) (xs : List ℕ) (f : ℕ → ℕ) → AllPairs (λ x y. x < y) xs → All (λ x. x < n) xs → All (λ x. p x ≡ true → 0 < f x) xs → count_by p xs ≤ sum_below n f
count_within n p [] f rises below has = omega arith
count_within n p (x ∷ xs) f rises below has =
    let tail : AllPairs (λ (y z : ℕ). y < z) xs = λ i j d before within. rises (suc i) (suc j) d (omega arith) (omega arith) in
    let apart : All (λ (y : ℕ). x < y) xs = λ k d within. rises 0 (suc k) d (omega arith) (omega arith) in
    let under : All (λ (y : ℕ). y < n) xs = All-tail (λ (y : ℕ). y < n) x xs below in
    let parts : All (λ (y : ℕ). p y ≡ true → 0 < f y) xs = All-tail (λ (y : ℕ). p y ≡ true → 0 < f y) x xs has in
    let rest = count_within n p xs (without x f) tail under (λ k d within passes. still (get_or xs k d) x (f (get_or xs k d)) (apart k d within) (parts k d within passes)) in
    let here : cond (p x) 1 0 ≤ f x = elim (cases_Bool (p x)) [
      | inl passes ↦ omega (arith, cond-true {A = ℕ} (p x) 1 0 passes, All-head (λ (y : ℕ). p y ≡ true → 0 < f y) x xs has passes)
      | inr fails ↦ omega (arith, cond-false {A = ℕ} (p x) 1 0 fails)
    ] in
    omega (arith, rest, here, sum_below-without n x f (All-head (λ (y : ℕ). y < n) x xs below), sum_by-cons (λ (y : ℕ). cond (p y) 1 0) x xs)

up_at : (xs : List ℕ) → IsStrictlyIncreasing xs → (i j : ℕ) → i + 1 ≡ j → j < length xs → get_or xs i 0 < get_or xs j 0
up_at xs up i j next within = subst (λ (m : ℕ). get_or xs i 0 < get_or xs m 0) next (up i (omega arith))

-- numbers that rise from each to the next rise from each to all later ones
rises_far : (xs : List ℕ) → IsStrictlyIncreasing xs → (i k : ℕ) → i + suc k < length xs → get_or xs i 0 < get_or xs (i + suc k) 0
rises_far xs up i zero within = up_at xs up i (i + 1) refl within
rises_far xs up i (suc k) within = omega (arith, rises_far xs up i k (omega arith), up_at xs up (i + suc k) (i + suc (suc k)) (omega arith) within)

pub all_rise : (xs : List ℕ) → IsStrictlyIncreasing xs → AllPairs (λ x y. x < y) xs
all_rise xs up i j d before within =
    let k : ℕ = j - (i + 1) in
    let is : i + suc k ≡ j = omega arith in
    let far : get_or xs i 0 < get_or xs j 0 = subst (λ (m : ℕ). get_or xs i 0 < get_or xs m 0) is (rises_far xs up i k (omega arith)) in
    omega (arith, far, get_or_default xs i d 0 (omega arith), get_or_default xs j d 0 within)

served_part : (n : ℕ) (f : Flow) (members : Members) (x : ℕ) → IsServed n f x → members x ≡ true → 0 < cond (members x && is_served n f x) 1 0
served_part n f members x served member = omega (arith, cond-true {A = ℕ} (members x && is_served n f x) 1 0 (and_from (members x) (is_served n f x) member (eq-eqb (units_in n f x) (units_out n f (Account x) + 1) served)))

-- the capacities of a level are one family, so the bound is one number
feasible_at : (g : Certificates) (level : Level) (f : Flow) (cap other : Node → ℕ) → ((x : Node) → cap x ≡ other x) → IsFeasible g level cap f → IsFeasible g level other f
feasible_at g level f cap other same = subst (λ (c : Node → ℕ). IsFeasible g level c f) (λ i x. same x i)

pub proven_is_bounded : (g : Certificates) (level : Level) (table : Table) (r : Lists) → IsProven g level table r → IsBounded g level table r.served
proven_is_bounded g level table r proven cap members capacities seedless =
    let proof = proven.1.2 in
    let n : ℕ = g.accounts in
    let f : Flow = flow_of r.flow in
    let feasible : IsFeasible g level cap f = feasible_at g level f proven.1.0 cap (capacities_unique g level table proven.1.0 cap proven.1.1 capacities) proof.feasible in
    let each : (k : ℕ) (d : ℕ) → k < length r.served → (get_or r.served k d < n) × IsServed n f (get_or r.served k d) = λ k d within. (proof.serves (get_or r.served k d)).1 (Contains-get_or r.served k d within) in
    let few = count_within n members r.served (λ x. cond (members x && is_served n f x) 1 0) (all_rise r.served proven.0.served)
    (λ k d within. (each k d within).0)
    (λ k d within member. served_part n f members (get_or r.served k d) (each k d within).1 member) in
    omega (arith, few, served_at_most_bound g level cap f members feasible seedless)
