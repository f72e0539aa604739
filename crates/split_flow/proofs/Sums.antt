-- Sums below a bound: with one term more, with a greater bound, with terms that differ in one place alone.
use Rattle.std.proofs.Common.{ℕ, zero, suc, ◌+◌, ◌≡◌, ◌≢◌, ◌≤◌, ◌<◌, inl, inr, arith, sym, subst, ap}
use Rattle.std.proofs.lemmas.Bool.{cases_lt, cases_eq}
use Rattle.trust_types.specs.Sum.{sum_below}
use Rattle.trust_types.proofs.Sums.{sum_below-eq, sum_below-zero}

pub sum_below-next : (k : ℕ) (f : ℕ → ℕ) → sum_below (k + 1) f ≡ sum_below k f + f k
sum_below-next k f = let same : k + 1 ≡ suc k = omega arith in ap (λ (i : ℕ). sum_below i f) same

-- a sum grows with its bound
pub sum_below-more : (k m : ℕ) (f : ℕ → ℕ) → k ≤ m → sum_below k f ≤ sum_below m f
sum_below-more k zero f le = let none : k ≡ 0 = omega arith in omega (arith, ap (λ (i : ℕ). sum_below i f) none)
sum_below-more k (suc m) f le =
    elim (cases_eq k (suc m)) [
      | inl same ↦ omega (arith, ap (λ (i : ℕ). sum_below i f) same)
      | inr other ↦ omega (arith, sum_below-more k m f (omega arith))
    ]

-- two functions that agree but at one place, where the first is greater by d
pub sum_below-point : (n : ℕ) (f h : ℕ → ℕ) (p d : ℕ) → p < n → ((x : ℕ) → x < n → x ≢ p → f x ≡ h x) → f p ≡ h p + d →
    sum_below n f ≡ sum_below n h + d
sum_below-point zero f h p d below same at = absurd (omega arith)
sum_below-point (suc n) f h p d below same at =
    elim (cases_eq n p) [
      | inl last ↦
          let before : sum_below n f ≡ sum_below n h = sum_below-eq n f h (λ x lt. same x (omega arith) (omega arith)) in
          let here : f n ≡ h n + d = subst (λ (k : ℕ). f k ≡ h k + d) (sym last) at in
          omega (arith, before, here)
      | inr other ↦
          let before : sum_below n f ≡ sum_below n h + d =
          sum_below-point n f h p d (omega arith) (λ x lt ne. same x (omega arith) ne) at in
          let here : f n ≡ h n = same n (omega arith) other in
          omega (arith, before, here)
    ]

-- a sum of which one term alone is not 0
pub sum_below-lone : (n : ℕ) (f : ℕ → ℕ) (p : ℕ) → p < n → ((x : ℕ) → x < n → x ≢ p → f x ≡ 0) → sum_below n f ≡ f p
sum_below-lone n f p below none =
    omega (arith, sum_below-point n f (λ _. 0) p (f p) below none (omega arith), sum_below-zero n)

-- a sum of which no term is
pub sum_below-none : (n : ℕ) (f : ℕ → ℕ) → ((x : ℕ) → x < n → f x ≡ 0) → sum_below n f ≡ 0
sum_below-none n f none = omega (arith, sum_below-eq n f (λ _. 0) none, sum_below-zero n)

-- where the sum is not 0, neither is one of its terms
pub sum_below-some : (n : ℕ) (f : ℕ → ℕ) → 0 < sum_below n f → (x : ℕ) × (x < n) × (0 < f x)
sum_below-some zero f some = absurd (omega arith)
sum_below-some (suc n) f some =
    elim (cases_lt 0 (f n)) [
      | inl here ↦ (n, omega arith, here)
      | inr none ↦ let before = sum_below-some n f (omega arith) in (before.0, omega (arith, before.1), before.2)
    ]
