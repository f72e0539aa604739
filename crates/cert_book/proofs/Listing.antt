-- The items of a range that pass a test, and numbers that list them.
use Rattle.std.proofs.Common.{ℕ, zero, suc, Bool, true, false, cond, ◌≡◌, ◌≤◌, ◌<◌, ◌+◌, inl, inr, refl, arith, sym, ap, subst, ◌∙◌, List, [], ◌∷◌, ◌++◌, length, map, Some, slice_get, length-append}
use Rattle.std.specs.List.{filter, range_with_len}
use Rattle.std.proofs.lemmas.Bool.{cases_eq, cases_lt}
use Rattle.std.proofs.lemmas.List.{append-nil}
use Rattle.std.proofs.lemmas.List.FromFn.{filter_of_map_range_with_len_more}
use Rattle.frozen.proofs.Numbering.{get-append_left, get-append_right}

-- n numbers rise, and are just those below m that pass.
pub record Lists (passes : ℕ → Bool) (m n : ℕ) (number : ℕ → ℕ) : Type 0 where
  pub rises : (i j : ℕ) → i < j → j < n → number i < number j
  pub below : (i : ℕ) → i < n → number i < m
  pub pass : (i : ℕ) → i < n → passes (number i) ≡ true
  pub whole : (c : ℕ) → c < m → passes c ≡ true → (i : ℕ) × (i < n) × (number i ≡ c)

-- The items in question.
abbrev pub passing : {X : Type 0} → (X → Bool) → (ℕ → X) → ℕ → List X
passing test item m = filter test (map item (range_with_len 0 m))

more : {X : Type 0} (test : X → Bool) (item : ℕ → X) (m : ℕ) → passing test item (suc m) ≡ passing test item m ++ cond (test (item m)) (item m ∷ []) []
more test item m =
    let next : m + 1 ≡ suc m = omega arith in
    ap (λ (k : ℕ). passing test item k) (sym next) ∙ filter_of_map_range_with_len_more test item 0 m m (omega arith)

-- It is n long, and its i-th item is that of the i-th number.
pub record AreItems {X : Type 0} (xs : List X) (n : ℕ) (item : ℕ → X) (number : ℕ → ℕ) : Type 0 where
  pub long : length xs ≡ n
  pub each : (i : ℕ) → i < n → slice_get xs i ≡ Some (item (number i))

none_listed : (passes : ℕ → Bool) (n : ℕ) (number : ℕ → ℕ) → Lists passes 0 n number → n ≡ 0
none_listed passes zero number are = refl
none_listed passes (suc n) number are = absurd (omega (arith, are.below 0 (omega arith)))

clash : (b : Bool) → b ≡ true → b ≡ false → ⊥
clash b t f = absurd (cc)

-- Where the last number of the range doesn't pass, the numbers are those below it.
fewer : (passes : ℕ → Bool) (m n : ℕ) (number : ℕ → ℕ) → passes m ≡ false → Lists passes (suc m) n number → Lists passes m n number
fewer passes m n number fails are = record {
  rises = are.rises;
  below = λ i lt. elim (cases_eq (number i) m) [
    | inl same ↦ absurd (clash (passes m) (ap passes (sym same) ∙ are.pass i lt) fails)
    | inr apart ↦ omega (arith, are.below i lt, apart)
  ];
  pass = are.pass;
  whole = λ c lt. are.whole c (omega arith);
}

-- Where it passes, it is the last of them.
last_place : (passes : ℕ → Bool) (m n : ℕ) (number : ℕ → ℕ) (i : ℕ) → Lists passes (suc m) n number → i < n → number i ≡ m → i + 1 ≡ n
last_place passes m n number i are lt is = elim (cases_lt (i + 1) n) [
  | inl before ↦ absurd (omega (arith, is, are.rises i (i + 1) (omega arith) before, are.below (i + 1) before))
  | inr end ↦ omega (arith, lt, end)
]

front : (passes : ℕ → Bool) (m n : ℕ) (number : ℕ → ℕ) → number n ≡ m → Lists passes (suc m) (n + 1) number → Lists passes m n number
front passes m n number last are = record {
  rises = λ i j before lt. are.rises i j before (omega arith);
  below = λ i lt. omega (arith, last, are.rises i n lt (omega arith));
  pass = λ i lt. are.pass i (omega arith);
  whole = λ c lt holds.
      let there = are.whole c (omega arith) holds in
      elim (cases_eq there.0 n) [
        | inl same ↦ absurd (omega (arith, last, there.2, ap number same, lt))
        | inr apart ↦ (there.0, omega (arith, there.1, apart), there.2)
      ];
}

with_last : {X : Type 0} (xs : List X) (n : ℕ) (item : ℕ → X) (number : ℕ → ℕ) → AreItems xs n item number → AreItems (xs ++ item (number n) ∷ []) (n + 1) item number
with_last xs n item number are = record {
  long = omega (arith, length-append xs (item (number n) ∷ []), are.long);
  each = λ i lt. elim (cases_lt i n) [
    | inl before ↦ get-append_left xs (item (number n) ∷ []) i (omega (arith, before, are.long)) ∙ are.each i before
    | inr end ↦
        let same : n ≡ i = omega (arith, lt, end) in
        get-append_right xs (item (number n) ∷ []) 0 i (omega (arith, same, are.long)) ∙ ap (λ (k : ℕ). Some (item (number k))) same
  ];
}

with_front : {X : Type 0} (test : X → Bool) (item : ℕ → X) (m n k : ℕ) (number : ℕ → ℕ) → k + 1 ≡ n → number k ≡ m → AreItems (passing test item m) k item number → AreItems (passing test item m ++ item m ∷ []) n item number
with_front test item m n k number end last are =
    subst (λ (j : ℕ). AreItems (passing test item m ++ item m ∷ []) j item number) end
    (subst (λ (x : ℕ). AreItems (passing test item m ++ item x ∷ []) (k + 1) item number) last (with_last (passing test item m) k item number are))

listed_by : {X : Type 0} (test : X → Bool) (item : ℕ → X) (m n : ℕ) (number : ℕ → ℕ) (holds : Bool) → test (item m) ≡ holds → Lists (λ c. test (item c)) (suc m) n number
    → ((k : ℕ) → Lists (λ c. test (item c)) m k number → AreItems (passing test item m) k item number) → AreItems (passing test item m ++ cond holds (item m ∷ []) []) n item number
listed_by test item m n number false is are ih =
    let before : AreItems (passing test item m) n item number = ih n (fewer (λ c. test (item c)) m n number is are) in
    record { long = omega (arith, length-append (passing test item m) [], before.long); each = λ i lt. ap (λ xs. slice_get xs i) (append-nil (passing test item m)) ∙ before.each i lt }
listed_by test item m n number true is are ih =
    let there = are.whole m (omega arith) is in
    let end : there.0 + 1 ≡ n = last_place (λ c. test (item c)) m n number there.0 are there.1 there.2 in
    let long : Lists (λ c. test (item c)) (suc m) (there.0 + 1) number = subst (λ (j : ℕ). Lists (λ c. test (item c)) (suc m) j number) (sym end) are in
    with_front test item m n there.0 number end there.2 (ih there.0 (front (λ c. test (item c)) m there.0 number there.2 long))

pub listed : {X : Type 0} (test : X → Bool) (item : ℕ → X) (m n : ℕ) (number : ℕ → ℕ) → Lists (λ c. test (item c)) m n number → AreItems (passing test item m) n item number
listed test item zero n number are =
    let none : n ≡ 0 = none_listed (λ c. test (item c)) n number are in
    record { long = sym none; each = λ i lt. absurd (omega (arith, none)) }
listed test item (suc m) n number are = rw (more test item m) (listed_by test item m n number (test (item m)) refl are (λ k. listed test item m k number))

at_least : (passes : ℕ → Bool) (m n : ℕ) (number : ℕ → ℕ) → Lists passes m n number → (i : ℕ) → i < n → i ≤ number i
at_least passes m n number are zero lt = omega arith
at_least passes m n number are (suc i) lt = omega (arith, at_least passes m n number are i (omega arith), are.rises i (suc i) (omega arith) lt)

-- There are no more of them than numbers below m.
pub lists_few : (passes : ℕ → Bool) (m n : ℕ) (number : ℕ → ℕ) → Lists passes m n number → n ≤ m
lists_few passes m zero number are = omega arith
lists_few passes m (suc n) number are = omega (arith, at_least passes m (suc n) number are n (omega arith), are.below n (omega arith))
