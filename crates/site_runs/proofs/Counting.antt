-- How many accounts a list has that lists those that a flow serves.
use Rattle.std.proofs.Common.{ℕ, zero, suc, Bool, true, false, ◌≡◌, ◌<◌, ◌+◌, if◌then◌else◌, inl, inr, refl, arith, sym, ap, subst, ◌∙◌, List, length, get_or}
use Rattle.std.specs.List.Sorted.{IsStrictlyIncreasing}
use Rattle.std.proofs.lemmas.Bool.{cases_eq, cases_lt, eq-eqb, eqb-true}
use Rattle.std.proofs.lemmas.List.{get_or_default}
use Rattle.std.proofs.lemmas.List.Elements.{Contains-get_or}
use Rattle.std.proofs.lemmas.List.Kept.{AllPairs-from_increasing}
use Rattle.trust_types.specs.declared.accounts.Node.TheVariants.{Account}
use Rattle.trust_types.specs.Sum.{sum_below}
use Rattle.trust_types.specs.Flow.{Flow, IsServed, is_served, units_in, units_out, total}
use Rattle.trust_types.specs.Roster.{Serves}

-- n numbers rise, and are just those below m that pass.
record Lists (passes : ℕ → Bool) (m n : ℕ) (number : ℕ → ℕ) : Type 0 where
  rises : (i j : ℕ) → i < j → j < n → number i < number j
  below : (i : ℕ) → i < n → number i < m
  pass : (i : ℕ) → i < n → passes (number i) ≡ true
  whole : (c : ℕ) → c < m → passes c ≡ true → (i : ℕ) × (i < n) × (number i ≡ c)

clash : (b : Bool) → b ≡ true → b ≡ false → ⊥
clash b t f = absurd (cc)

none : (passes : ℕ → Bool) (n : ℕ) (number : ℕ → ℕ) → Lists passes 0 n number → n ≡ 0
none passes zero number are = refl
none passes (suc n) number are = absurd (omega (arith, are.below 0 (omega arith)))

-- Where the last number doesn't pass, the numbers are those below it.
fewer : (passes : ℕ → Bool) (m n : ℕ) (number : ℕ → ℕ) → passes m ≡ false → Lists passes (suc m) n number → Lists passes m n number
fewer passes m n number fails are = record {
  rises = are.rises;
  below = λ i lt. elim (cases_eq (number i) m) [
    | inl same ↦ absurd (clash (passes m) (ap passes (sym same) ∙ are.pass i lt) fails)
    | inr apart ↦ omega (arith, are.below i lt, apart)
  ];
  pass = are.pass;
  whole = λ c lt. are.whole c (omega arith);
}

-- Where it passes, it is the last of them.
last_place : (passes : ℕ → Bool) (m n : ℕ) (number : ℕ → ℕ) (i : ℕ) → Lists passes (suc m) n number → i < n → number i ≡ m → i + 1 ≡ n
last_place passes m n number i are lt is = elim (cases_lt (i + 1) n) [
  | inl before ↦ absurd (omega (arith, is, are.rises i (i + 1) (omega arith) before, are.below (i + 1) before))
  | inr end ↦ omega (arith, lt, end)
]

front : (passes : ℕ → Bool) (m n : ℕ) (number : ℕ → ℕ) → number n ≡ m → Lists passes (suc m) (n + 1) number → Lists passes m n number
front passes m n number last are = record {
  rises = λ i j before lt. are.rises i j before (omega arith);
  below = λ i lt. omega (arith, last, are.rises i n lt (omega arith));
  pass = λ i lt. are.pass i (omega arith);
  whole = λ c lt holds.
      let there = are.whole c (omega arith) holds in
      elim (cases_eq there.0 n) [
        | inl same ↦ absurd (omega (arith, last, there.2, ap number same, lt))
        | inr apart ↦ (there.0, omega (arith, there.1, apart), there.2)
      ];
}

-- How many numbers below m pass.
abbrev passing : (ℕ → Bool) → ℕ → ℕ
passing passes m = sum_below m (λ x. if passes x then 1 else 0)

counted_by : (passes : ℕ → Bool) (m n : ℕ) (number : ℕ → ℕ) (holds : Bool) → passes m ≡ holds → Lists passes (suc m) n number
    → ((k : ℕ) → Lists passes m k number → k ≡ passing passes m) → n ≡ passing passes m + (if holds then 1 else 0)
counted_by passes m n number false is are ih = omega (arith, ih n (fewer passes m n number is are))
counted_by passes m n number true is are ih =
    let there = are.whole m (omega arith) is in
    let end : there.0 + 1 ≡ n = last_place passes m n number there.0 are there.1 there.2 in
    let long : Lists passes (suc m) (there.0 + 1) number = subst (λ (j : ℕ). Lists passes (suc m) j number) (sym end) are in
    omega (arith, end, ih there.0 (front passes m there.0 number there.2 long))

counted : (passes : ℕ → Bool) (m n : ℕ) (number : ℕ → ℕ) → Lists passes m n number → n ≡ passing passes m
counted passes zero n number are = none passes n number are
counted passes (suc m) n number are = counted_by passes m n number (passes m) refl are (λ k. counted passes m k number)

-- A rising list of the accounts that a flow serves is as long as they are many.
pub served_count : (n : ℕ) (f : Flow) (served : List ℕ) → IsStrictlyIncreasing served → Serves n f served → length served ≡ total n f
served_count n f served rises serves =
    let same : (x : ℕ) → IsServed n f x → is_served n f x ≡ true = λ x is. eq-eqb (units_in n f x) (units_out n f (Account x) + 1) is in
    counted (is_served n f) n (length served) (λ i. get_or served i 0) (record {
      rises = λ i j before lt. AllPairs-from_increasing served rises i j 0 before lt;
      below = λ i lt. ((serves (get_or served i 0)).1 (Contains-get_or served i 0 lt)).0;
      pass = λ i lt. same (get_or served i 0) ((serves (get_or served i 0)).1 (Contains-get_or served i 0 lt)).1;
      whole = λ c lt holds.
          let found = (serves c).0 (lt, eqb-true (units_in n f c) (units_out n f (Account c) + 1) holds) in
          (found.0, found.1, get_or_default served found.0 0 c found.1 ∙ found.2);
    })
