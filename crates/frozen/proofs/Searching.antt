-- What a binary search of a row tells.
use Rattle.std.proofs.Common.{ℕ, ◌≡◌, ◌≤◌, ◌<◌, ◌+◌, ◌-◌, arith, sym, ap, ◌∙◌, inl, inr, List, length, get_or, take, drop, Result, Ok, Err}
use Rattle.std.specs.List.Sorted.{IsBinarySearchResult}
use Rattle.std.specs.Ordering.{nat_cmp}
use Rattle.std.specs.Result.{MatchResult}
use Rattle.std.proofs.lemmas.Bool.{cases_eq}
use Rattle.std.proofs.lemmas.List.{get_or-take, get_or-drop, length-take-le, length-drop}
use Rattle.std.proofs.lemmas.List.Sorted.{searched}
use Rattle.frozen.specs.Parts.{Part, count, degree_in, taker_in, IsPart}
use Rattle.frozen.specs.inner.Rows.{IsFound, IsPlace}
use Rattle.frozen.proofs.Shifts.{start_in}

-- the takers of a row
abbrev row_items : Part → ℕ → ℕ → List ℕ
row_items p start end = take (end - start) (drop start p.takers)

item : (p : Part) (start end i : ℕ) → i < end - start → get_or (row_items p start end) i 0 ≡ get_or p.takers (start + i) 0
item p start end i lt = get_or-take (end - start) (drop start p.takers) i 0 lt ∙ get_or-drop start p.takers i 0

long : (p : Part) (start end : ℕ) → end ≤ length p.takers → length (row_items p start end) ≡ end - start
long p start end inside = length-take-le (end - start) (drop start p.takers) (omega (arith, length-drop start p.takers))

abbrev IsAnswer : List ℕ → ℕ → Result ℕ ℕ → Type 0
IsAnswer xs x r = MatchResult r (λ i. (i < length xs) × (get_or xs i 0 ≡ x)) (λ i. (i ≤ length xs) × ((k : ℕ) → k < i → get_or xs k 0 < x) × ((k : ℕ) → i ≤ k → k < length xs → x < get_or xs k 0))

told : (p : Part) (row to : ℕ) (r : Result ℕ ℕ) → IsPart p → row < count p → IsAnswer (row_items p (start_in p row) (start_in p (row + 1))) to r → MatchResult r (IsFound p row to) (IsPlace p row to)
told p row to (Ok i) is below h =
    let n : length (row_items p (start_in p row) (start_in p (row + 1))) ≡ degree_in p row = long p (start_in p row) (start_in p (row + 1)) (is.within (row + 1) (omega arith)) in
    (omega (arith, n, h.0), sym (item p (start_in p row) (start_in p (row + 1)) i (omega (arith, n, h.0))) ∙ h.1)
told p row to (Err i) is below h =
    let n : length (row_items p (start_in p row) (start_in p (row + 1))) ≡ degree_in p row = long p (start_in p row) (start_in p (row + 1)) (is.within (row + 1) (omega arith)) in
    let within : i ≤ degree_in p row = omega (arith, n, h.0) in
    record {
      within = within;
      before = λ k lt. omega (arith, item p (start_in p row) (start_in p (row + 1)) k (omega arith), h.1 k lt);
      behind = λ k le lt. omega (arith, item p (start_in p row) (start_in p (row + 1)) k (omega arith), h.2 k le (omega (arith, n)));
    }

rising : (p : Part) (row i j : ℕ) → IsPart p → row < count p → i ≤ j → j < degree_in p row → taker_in p row i ≤ taker_in p row j
rising p row i j is below le lt =
    elim (cases_eq i j) [
      | inl same ↦ let e : taker_in p row i ≡ taker_in p row j = ap (taker_in p row) same in omega (arith, e)
      | inr apart ↦ omega (arith, is.rises row i j below (omega (arith, apart)) lt)
    ]

pub search_facts : (p : Part) (row to start end : ℕ) (r : Result ℕ ℕ) → IsPart p → row < count p → start ≡ start_in p row → end ≡ start_in p (row + 1)
    → IsBinarySearchResult (λ y. nat_cmp y to) (row_items p start end) r → MatchResult r (IsFound p row to) (IsPlace p row to)
search_facts p row to start end r is below start_is end_is answer =
    let n : length (row_items p (start_in p row) (start_in p (row + 1))) ≡ degree_in p row = long p (start_in p row) (start_in p (row + 1)) (is.within (row + 1) (omega arith)) in
    let here : IsBinarySearchResult (λ y. nat_cmp y to) (row_items p (start_in p row) (start_in p (row + 1))) r = rw (← start_is, ← end_is) answer in
    told p row to r is below (searched (row_items p (start_in p row) (start_in p (row + 1))) to r here (λ i j le lt.
    omega (arith, item p (start_in p row) (start_in p (row + 1)) i (omega (arith, n)), item p (start_in p row) (start_in p (row + 1)) j (omega (arith, n)), rising p row i j is below le (omega (arith, n)))))
