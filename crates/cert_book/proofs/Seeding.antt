-- How many accounts are seeds.
use Rattle.std.proofs.Common.{ℕ, zero, suc, Bool, true, false, not, ◌||◌, ◌&&◌, ◌==◌, if◌then◌else◌, nat_lt, ◌≡◌, ◌≢◌, ◌<◌, ◌+◌, inl, inr, refl, arith, sym, ap, ◌∙◌, [], ◌∷◌, ◌++◌}
use Rattle.std.specs.List.{list_any, range_with_len}
use Rattle.std.proofs.lemmas.Bool.{cases_eq}
use Rattle.std.proofs.lemmas.Bool.Decides.{nat_tests}
use Rattle.std.proofs.lemmas.List.Folds.{list_any-append}
use Rattle.trust_types.proofs.Sums.{sum_below-eq}
use Rattle.cert_book.specs.inner.Keeping.{seeds_before}

-- 1 for a seed.
abbrev pub one : Bool → ℕ
one seed = if seed then 1 else 0

set_here : (a x : ℕ) (s t : Bool) → a ≡ x → (if a == x then s else t) ≡ s
set_here a x s t is = grind (arith, nat_tests)

set_other : (a x : ℕ) (s t : Bool) → a ≢ x → (if a == x then s else t) ≡ t
set_other a x s t apart = grind (arith, nat_tests)

-- One account more is a seed.
pub seeds_added : (old new : ℕ → Bool) (x n : ℕ) → ((a : ℕ) → new a ≡ (if a == x then true else old a)) → old x ≡ false → x < n → seeds_before new n ≡ seeds_before old n + 1
seeds_added old new x zero is none lt = absurd (omega arith)
seeds_added old new x (suc n) is none lt = elim (cases_eq x n) [
  | inl same ↦
      let front : seeds_before new n ≡ seeds_before old n = sum_below-eq n (λ a. one (new a)) (λ a. one (old a))
      (λ a before. ap one (is a ∙ set_other a x true (old a) (λ e. omega (arith, e, same, before)))) in
      let last : one (new n) ≡ 1 = ap one (is n ∙ set_here n x true (old n) (sym same)) in
      let was : one (old n) ≡ 0 = ap (λ (k : ℕ). one (old k)) (sym same) ∙ ap one none in
      omega (arith, front, last, was)
  | inr apart ↦
      let front : seeds_before new n ≡ seeds_before old n + 1 = seeds_added old new x n is none (omega (arith, lt, apart)) in
      let last : one (new n) ≡ one (old n) = ap one (is n ∙ set_other n x true (old n) (λ e. apart (sym e))) in
      omega (arith, front, last)
]

-- One account less is.
pub seeds_removed : (old new : ℕ → Bool) (x n : ℕ) → ((a : ℕ) → new a ≡ (if a == x then false else old a)) → old x ≡ true → x < n → seeds_before new n + 1 ≡ seeds_before old n
seeds_removed old new x n is seed lt = sym (seeds_added new old x n (λ a. elim (cases_eq a x) [
  | inl same ↦ ap old same ∙ seed ∙ sym (set_here a x true (new a) same)
  | inr apart ↦ sym (is a ∙ set_other a x false (old a) apart) ∙ sym (set_other a x true (new a) apart)
]) (is x ∙ set_here x x false (old x) refl) lt)

range_more : (a n : ℕ) → range_with_len a (suc n) ≡ range_with_len a n ++ (a + n) ∷ []
range_more a zero = let e : a ≡ a + 0 = omega arith in ap (λ (k : ℕ). k ∷ []) e
range_more a (suc n) = let e : a + 1 + n ≡ a + suc n = omega arith in ap (λ ks. a ∷ ks) (range_more (a + 1) n ∙ ap (λ (k : ℕ). range_with_len (a + 1) n ++ k ∷ []) e)

some_or : (count : ℕ) (q : Bool) → (nat_lt 0 count || (q || false)) ≡ nat_lt 0 (count + (if q then 1 else 0))
some_or count true = grind arith
some_or count false = grind arith

any_below : (q : ℕ → Bool) (n : ℕ) → list_any q (range_with_len 0 n) ≡ nat_lt 0 (seeds_before q n)
any_below q zero = refl
any_below q (suc n) =
    let e : 0 + n ≡ n = omega arith in
    ap (list_any q) (range_more 0 n) ∙ ap (λ (k : ℕ). list_any q (range_with_len 0 n ++ k ∷ [])) e ∙ list_any-append q (range_with_len 0 n) (n ∷ []) ∙ ap (λ (b : Bool). b || (q n || false)) (any_below q n) ∙ some_or (seeds_before q n) (q n)

other_here : (s : Bool) (a x : ℕ) → a ≡ x → (s && not (a == x)) ≡ false
other_here s a x same = grind (arith, nat_tests)

other_there : (s : Bool) (a x : ℕ) → a ≢ x → (s && not (a == x)) ≡ s
other_there s a x apart = grind (arith, nat_tests)

more_than_one : (others all : ℕ) → all ≡ others + 1 → nat_lt 0 others ≡ nat_lt 1 all
more_than_one others all is = grind (arith, is)

-- Of a seed: another one is, where there is more than one.
pub other_seed : (seed : ℕ → Bool) (a n : ℕ) → seed a ≡ true → a < n → list_any (λ other. seed other && not (other == a)) (range_with_len 0 n) ≡ nat_lt 1 (seeds_before seed n)
other_seed seed a n is lt =
    any_below (λ other. seed other && not (other == a)) n
    ∙ more_than_one (seeds_before (λ other. seed other && not (other == a)) n) (seeds_before seed n)
    (seeds_added (λ other. seed other && not (other == a)) seed a n (λ x. elim (cases_eq x a) [
      | inl same ↦ ap seed same ∙ is ∙ sym (set_here x a true (seed x && not (x == a)) same)
      | inr apart ↦ sym (set_other x a true (seed x && not (x == a)) apart ∙ other_there (seed x) x a apart)
    ]) (other_here (seed a) a a refl) lt)
