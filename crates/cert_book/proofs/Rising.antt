-- Accounts in rising order, with one more or one less.
use Rattle.std.proofs.Common.{ℕ, Bool, true, false, ◌||◌, ◌==◌, if◌then◌else◌, ◌≡◌, ◌≢◌, ◌≤◌, ◌<◌, ◌+◌, ◌-◌, ◌⊎◌, inl, inr, arith, sym, ap, ◌∙◌, List, ◌∷◌, length, get_or, Result, Ok, Err}
use Rattle.std.specs.Prelude.{insert, remove}
use Rattle.std.specs.List.{Any}
use Rattle.std.proofs.lemmas.Bool.{cases_eq, cases_lt}
use Rattle.std.proofs.lemmas.List.{get_or_default}
use Rattle.std.proofs.lemmas.Bool.Decides.{nat_tests}
use Rattle.std.proofs.lemmas.List.Edits.{get_or-insert_at, get_or-insert_below, get_or-insert_above, length-insert, get_or-remove_below, get_or-remove_above, length-remove}
use Rattle.std.proofs.lemmas.List.Folds.{list_any_at, list_any_none, Any-from_list_any}
use Rattle.std.specs.List.Sorted.{IsBinarySearchResult}
use Rattle.std.specs.Ordering.{nat_cmp}
use Rattle.std.specs.Result.{MatchResult}
use Rattle.std.proofs.lemmas.List.Sorted.{list_any-IsPermutation, IsPermutation-insert, IsPermutation-remove, searched}
use Rattle.cert_book.specs.inner.Takings.{Rises, has, IsFound, IsPlace}

-- An item of the longer list: the new one, or one of the shorter.
inserted : (xs : List ℕ) (place x k : ℕ) → place ≤ length xs → k < length xs + 1
    → ((k < place) × (get_or (insert xs place x) k 0 ≡ get_or xs k 0)) ⊎ (((k ≡ place) × (get_or (insert xs place x) k 0 ≡ x)) ⊎ ((j : ℕ) × (k ≡ j + 1) × (place ≤ j) × (get_or (insert xs place x) k 0 ≡ get_or xs j 0)))
inserted xs place x k within lt = elim (cases_lt k place) [
  | inl before ↦ inl (before, get_or-insert_below xs place x 0 k before within)
  | inr behind ↦ elim (cases_eq k place) [
    | inl same ↦ inr (inl (same, ap (λ (j : ℕ). get_or (insert xs place x) j 0) same ∙ get_or-insert_at xs place x 0 within))
    | inr apart ↦
        let next : k ≡ k - 1 + 1 = omega (arith, behind, apart) in
        inr (inr (k - 1, next, omega (arith, behind, apart), ap (λ (j : ℕ). get_or (insert xs place x) j 0) next ∙ get_or-insert_above xs place x 0 (k - 1) (omega (arith, behind, apart)) within))
  ]
]

pub rises_with : (xs : List ℕ) (place x : ℕ) → Rises xs → IsPlace xs x place → Rises (insert xs place x)
rises_with xs place x rises is i j before lt =
    let long : length (insert xs place x) ≡ length xs + 1 = length-insert xs place x is.within in
    elim (inserted xs place x i is.within (omega (arith, long, lt, before))) [
      | inl low ↦ elim (inserted xs place x j is.within (omega (arith, long, lt))) [
        | inl high ↦ omega (arith, low.1, high.1, rises i j before (omega (arith, high.0, is.within)))
        | inr rest ↦ elim rest [
          | inl high ↦ omega (arith, low.1, high.1, is.before i low.0)
          | inr high ↦ omega (arith, low.1, high.3, rises i high.0 (omega (arith, low.0, high.2)) (omega (arith, high.1, long, lt)))
        ]
      ]
      | inr others ↦ elim others [
        | inl low ↦ elim (inserted xs place x j is.within (omega (arith, long, lt))) [
          | inl high ↦ absurd (omega (arith, low.0, high.0, before))
          | inr rest ↦ elim rest [
            | inl high ↦ absurd (omega (arith, low.0, high.0, before))
            | inr high ↦ omega (arith, low.1, high.3, is.behind high.0 high.2 (omega (arith, high.1, long, lt)))
          ]
        ]
        | inr low ↦ elim (inserted xs place x j is.within (omega (arith, long, lt))) [
          | inl high ↦ absurd (omega (arith, low.1, low.2, high.0, before))
          | inr rest ↦ elim rest [
            | inl high ↦ absurd (omega (arith, low.1, low.2, high.0, before))
            | inr high ↦ omega (arith, low.3, high.3, rises low.0 high.0 (omega (arith, low.1, high.1, before)) (omega (arith, high.1, long, lt)))
          ]
        ]
      ]
    ]

-- Where an item of the shorter list stood.
removed : (xs : List ℕ) (place k : ℕ) → place < length xs
    → ((k < place) × (get_or (remove xs place) k 0 ≡ get_or xs k 0)) ⊎ ((place ≤ k) × (get_or (remove xs place) k 0 ≡ get_or xs (k + 1) 0))
removed xs place k within = elim (cases_lt k place) [
  | inl before ↦ inl (before, get_or-remove_below xs place 0 k before within)
  | inr behind ↦ inr (behind, get_or-remove_above xs place 0 k behind within)
]

pub rises_without : (xs : List ℕ) (place : ℕ) → Rises xs → place < length xs → Rises (remove xs place)
rises_without xs place rises within i j before lt =
    let long : length (remove xs place) + 1 ≡ length xs = length-remove xs place within in
    elim (removed xs place i within) [
      | inl low ↦ elim (removed xs place j within) [
        | inl high ↦ omega (arith, low.1, high.1, rises i j before (omega (arith, high.0, within)))
        | inr high ↦ omega (arith, low.1, high.1, rises i (j + 1) (omega (arith, before)) (omega (arith, lt, long)))
      ]
      | inr low ↦ elim (removed xs place j within) [
        | inl high ↦ absurd (omega (arith, low.0, high.0, before))
        | inr high ↦ omega (arith, low.1, high.1, rises (i + 1) (j + 1) (omega (arith, before)) (omega (arith, lt, long)))
      ]
    ]

one_more : (x a : ℕ) (h : Bool) → ((x == a) || h) ≡ (if a == x then true else h)
one_more x a h = elim (cases_eq x a) [
  | inl same ↦ grind (arith, nat_tests)
  | inr apart ↦ grind (arith, nat_tests)
]

pub has_with : (xs : List ℕ) (place x a : ℕ) → has (insert xs place x) a ≡ (if a == x then true else has xs a)
has_with xs place x a = sym (list_any-IsPermutation (λ (y : ℕ). y == a) (x ∷ xs) (insert xs place x) (IsPermutation-insert xs place x)) ∙ one_more x a (has xs a)

same_test : (a x : ℕ) (s t : Bool) → a ≡ x → (if a == x then s else t) ≡ s
same_test a x s t is = grind (arith, nat_tests)

other_test : (a x : ℕ) (s t : Bool) → a ≢ x → (if a == x then s else t) ≡ t
other_test a x s t apart = grind (arith, nat_tests)

equal_test : (x y : ℕ) → x ≡ y → (x == y) ≡ true
equal_test x y same = grind (arith, nat_tests)

unequal_test : (x y : ℕ) → x ≢ y → (x == y) ≡ false
unequal_test x y apart = grind (arith, nat_tests)

pub has_at : (xs : List ℕ) (k a : ℕ) → k < length xs → get_or xs k 0 ≡ a → has xs a ≡ true
has_at xs k a lt is = list_any_at (λ (x : ℕ). x == a) xs k 0 lt (equal_test (get_or xs k 0) a is)

-- One that isn't where it belongs isn't among them.
pub lacks_at : (xs : List ℕ) (place x : ℕ) → IsPlace xs x place → has xs x ≡ false
lacks_at xs place x is = list_any_none (λ (y : ℕ). y == x) xs (λ k d lt. unequal_test (get_or xs k d) x (λ same. elim (cases_lt k place) [
  | inl before ↦ omega (arith, same, is.before k before, default k d lt)
  | inr behind ↦ omega (arith, same, is.behind k behind lt, default k d lt)
]))
  where
    default : (k d : ℕ) → k < length xs → get_or xs k d ≡ get_or xs k 0
    default k d lt = get_or_default xs k d 0 lt

without : (xs : List ℕ) (place x : ℕ) → Rises xs → place < length xs → get_or xs place 0 ≡ x → has (remove xs place) x ≡ false
without xs place x rises within is =
    let long : length (remove xs place) + 1 ≡ length xs = length-remove xs place within in
    list_any_none (λ (y : ℕ). y == x) (remove xs place) (λ k d lt. unequal_test (get_or (remove xs place) k d) x (λ same.
    let here : get_or (remove xs place) k d ≡ get_or (remove xs place) k 0 = get_or_default (remove xs place) k d 0 lt in
    elim (removed xs place k within) [
      | inl low ↦ omega (arith, same, here, low.1, is, rises k place low.0 within)
      | inr high ↦ omega (arith, same, here, high.1, is, rises place (k + 1) (omega (arith, high.0)) (omega (arith, lt, long)))
    ]))

still : (x a : ℕ) (h new : Bool) → h ≡ ((x == a) || new) → x ≢ a → new ≡ h
still x a h new is apart = grind (arith, nat_tests)

pub has_without : (xs : List ℕ) (place x a : ℕ) → Rises xs → place < length xs → get_or xs place 0 ≡ x → has (remove xs place) a ≡ (if a == x then false else has xs a)
has_without xs place x a rises within is = elim (cases_eq a x) [
  | inl same ↦ ap (has (remove xs place)) same ∙ without xs place x rises within is ∙ sym (same_test a x false (has xs a) same)
  | inr apart ↦
      still x a (has xs a) (has (remove xs place) a)
      (list_any-IsPermutation (λ (y : ℕ). y == a) xs (x ∷ remove xs place) (IsPermutation-remove xs place x within (sym is ∙ get_or_default xs place 0 x within)))
      (λ e. apart (sym e))
      ∙ sym (other_test a x false (has xs a) apart)
]

-- One that is among them stays so, and one that isn't stays away.
pub has_same : (xs : List ℕ) (x a : ℕ) (gives : Bool) → has xs x ≡ gives → has xs a ≡ (if a == x then gives else has xs a)
has_same xs x a gives is = elim (cases_eq a x) [
  | inl same ↦ ap (has xs) same ∙ is ∙ sym (same_test a x gives (has xs a) same)
  | inr apart ↦ sym (other_test a x gives (has xs a) apart)
]

-- Where one stands that is among them.
pub stands_at : (xs : List ℕ) (a : ℕ) → has xs a ≡ true → (k : ℕ) × (k < length xs) × (get_or xs k 0 ≡ a)
stands_at xs a among =
    let any : Any (λ (x : ℕ). (x == a) ≡ true) xs = Any-from_list_any (λ (x : ℕ). x == a) xs among in
    (any.0, any.2, get_or_default xs any.0 0 any.1 any.2 ∙ any.3 ∙ equal any.1 a any.4)
  where
    equal : (x y : ℕ) → (x == y) ≡ true → x ≡ y
    equal x y e = grind (arith, nat_tests)

-- What a binary search tells.
pub told : (xs : List ℕ) (a : ℕ) (r : Result ℕ ℕ) → Rises xs → IsBinarySearchResult (λ y. nat_cmp y a) xs r → MatchResult r (IsFound xs a) (IsPlace xs a)
told xs a r rises answer = facts r (searched xs a r answer (λ i j le lt. elim (cases_eq i j) [
  | inl same ↦ let e : get_or xs i 0 ≡ get_or xs j 0 = ap (λ (k : ℕ). get_or xs k 0) same in omega (arith, e)
  | inr apart ↦ omega (arith, rises i j (omega (arith, le, apart)) lt)
]))
  where
    facts : (s : Result ℕ ℕ) → MatchResult s (λ i. (i < length xs) × (get_or xs i 0 ≡ a)) (λ i. (i ≤ length xs) × ((k : ℕ) → k < i → get_or xs k 0 < a) × ((k : ℕ) → i ≤ k → k < length xs → a < get_or xs k 0)) → MatchResult s (IsFound xs a) (IsPlace xs a)
    facts (Ok i) h = record { within = h.0; here = h.1 }
    facts (Err i) h = record { within = h.0; before = h.1; behind = h.2 }
