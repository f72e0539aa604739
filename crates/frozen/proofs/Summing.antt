-- How many certificates the accounts of parts give together.
use Rattle.std.proofs.Common.{ℕ, zero, suc, ◌≡◌, ◌≤◌, ◌<◌, ◌+◌, ◌/◌, ◌%◌, refl, arith, sym, ap, ◌∙◌, List, [], ◌∷◌, length, length-append}
use Rattle.std.proofs.lemmas.List.Sums.{sum_by-cons}
use Rattle.trust_types.specs.Sum.{sum_below}
use Rattle.trust_types.proofs.Sums.{sum_below-eq}
use Rattle.frozen.specs.Parts.{Part, count, degree_in, IsPart}
use Rattle.frozen.specs.Sites.{part_at, names, accounts, degree, certs}
use Rattle.frozen.proofs.Shifts.{start_in}

sum_shifted : (f : ℕ → ℕ) (m n : ℕ) → sum_below (m + n) f ≡ sum_below m f + sum_below n (λ row. f (m + row))
sum_shifted f m zero = let e : m + 0 ≡ m = omega arith in ap (λ (k : ℕ). sum_below k f) e ∙ omega arith
sum_shifted f m (suc n) = let e : m + suc n ≡ suc (m + n) = omega arith in ap (λ (k : ℕ). sum_below k f) e ∙ omega (arith, sum_shifted f m n)

-- the first rows of a part
rows_below : (p : Part) → IsPart p → (n : ℕ) → n ≤ count p → sum_below n (degree_in p) ≡ start_in p n
rows_below p is zero le = sym is.begins
rows_below p is (suc n) le =
    let next : start_in p (n + 1) ≡ start_in p (suc n) = ap (start_in p) (omega arith) in
    omega (arith, rows_below p is n (omega arith), is.follow n (omega arith), next)

part_sum : (p : Part) → IsPart p → sum_below (count p) (degree_in p) ≡ length p.takers
part_sum p is = rows_below p is (count p) (omega arith) ∙ is.ends

first_degree : (p : Part) (ps : List Part) (a : ℕ) → a < 64 → degree (p ∷ ps) a ≡ degree_in p a
first_degree p ps a lt =
    let k : a / 64 ≡ 0 = omega arith in
    let r : a % 64 ≡ a = omega arith in
    ap (λ (n : ℕ). degree_in (part_at (p ∷ ps) n) (a % 64)) k ∙ ap (degree_in p) r

later_degree : (p : Part) (ps : List Part) (a : ℕ) → degree (p ∷ ps) (64 + a) ≡ degree ps a
later_degree p ps a =
    let k : (64 + a) / 64 ≡ suc (a / 64) = omega arith in
    let r : (64 + a) % 64 ≡ a % 64 = omega arith in
    ap (λ (n : ℕ). degree_in (part_at (p ∷ ps) n) ((64 + a) % 64)) k ∙ ap (degree_in (part_at ps (a / 64))) r

first_sum : (p : Part) (ps : List Part) → IsPart p → sum_below (count p) (degree (p ∷ ps)) ≡ length p.takers
first_sum p ps is = sum_below-eq (count p) (degree (p ∷ ps)) (degree_in p) (λ a lt. first_degree p ps a (omega (arith, is.few))) ∙ part_sum p is

pub sum_of_degrees : (ps : List Part) → ((k : ℕ) → k < length ps → IsPart (part_at ps k)) → ((k : ℕ) → k + 1 < length ps → count (part_at ps k) ≡ 64)
    → sum_below (accounts ps) (degree ps) ≡ certs ps
sum_of_degrees [] are full = refl
sum_of_degrees (p ∷ []) are full =
    let one : accounts (p ∷ []) ≡ count p = omega (arith, length-append p.names []) in
    ap (λ (n : ℕ). sum_below n (degree (p ∷ []))) one ∙ omega (arith, first_sum p [] (are 0 (omega arith)), sum_by-cons (λ (q : Part). length q.takers) p [])
sum_of_degrees (p ∷ q ∷ ps) are full =
    let all : accounts (p ∷ q ∷ ps) ≡ count p + accounts (q ∷ ps) = length-append p.names (names (q ∷ ps)) in
    let size : count p ≡ 64 = full 0 (omega arith) in
    let rest : sum_below (accounts (q ∷ ps)) (λ row. degree (p ∷ q ∷ ps) (count p + row)) ≡ sum_below (accounts (q ∷ ps)) (degree (q ∷ ps)) =
    sum_below-eq (accounts (q ∷ ps)) (λ row. degree (p ∷ q ∷ ps) (count p + row)) (degree (q ∷ ps)) (λ row lt. ap (λ (n : ℕ). degree (p ∷ q ∷ ps) (n + row)) size ∙ later_degree p (q ∷ ps) row) in
    ap (λ (n : ℕ). sum_below n (degree (p ∷ q ∷ ps))) all
    ∙ sum_shifted (degree (p ∷ q ∷ ps)) (count p) (accounts (q ∷ ps))
    ∙ omega (arith, first_sum p (q ∷ ps) (are 0 (omega arith)), rest, sum_of_degrees (q ∷ ps) (λ k lt. are (suc k) (omega arith)) (λ k lt. full (suc k) (omega arith)), sum_by-cons (λ (r : Part). length r.takers) p (q ∷ ps))
