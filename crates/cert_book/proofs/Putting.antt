-- One certificate is put into the parts of a site.
use Rattle.std.proofs.Common.{ℕ, zero, suc, Bool, false, ◌==◌, ◌&&◌, ◌≡◌, ◌≢◌, ◌≤◌, ◌<◌, ◌+◌, ◌/◌, ◌%◌, ◌⊎◌, inl, inr, arith, sym, ap, subst, ◌∙◌, List, [], ◌∷◌, ◌++◌, length, get_or, set, if◌then◌else◌}
use Rattle.std.proofs.lemmas.Bool.{cases_eq}
use Rattle.std.proofs.lemmas.Bool.Decides.{nat_tests}
use Rattle.std.proofs.lemmas.List.{get_or-set_same, get_or-set_other, length-set}
use Rattle.std.proofs.lemmas.List.Sums.{sum_by-cons}
use Rattle.trust_types.specs.declared.levels.Level.{Level}
use Rattle.trust_types.specs.declared.graphs.Cert.{Cert}
use Rattle.trust_types.specs.declared.limits.TheConstants.{MOST_CERTS}
use Rattle.trust_types.specs.Levels.{IsGrade}
use Rattle.trust_types.specs.NameLists.{AreApart}
use Rattle.frozen.specs.Parts.{Part, no_part, count, marks_seed, degree_in, giver_in, taker_in, level_in, standing_in, IsPart}
use Rattle.frozen.specs.Writes.{graded, row_of, IsPut}
use Rattle.frozen.specs.Sites.{part_at, part_of, names, accounts, is_seed, degree, taker, standing, certs, AreParts}
use Rattle.frozen.proofs.Among.{among-at, among-found}
use Rattle.frozen.proofs.Numbering.{row_within, part_within}
use Rattle.frozen.proofs.Readers.{part_is, are_full}

-- The names, where a part was written that keeps its own.
pub names_set : (ps : List Part) (k : ℕ) (p : Part) → k < length ps → p.names ≡ (part_at ps k).names → names (set ps k p) ≡ names ps
names_set [] k p lt same = absurd (omega arith)
names_set (q ∷ ps) zero p lt same = ap (λ (xs : List (List ℕ)). xs ++ names ps) same
names_set (q ∷ ps) (suc k) p lt same = ap (λ (xs : List (List ℕ)). q.names ++ xs) (names_set ps k p (omega arith) same)

abbrev long : Part → ℕ
long p = length p.takers

pub certs_set : (ps : List Part) (k : ℕ) (p : Part) → k < length ps → certs (set ps k p) + long (part_at ps k) ≡ certs ps + long p
certs_set [] k p lt = absurd (omega arith)
certs_set (q ∷ ps) zero p lt = omega (arith, sum_by-cons long p ps, sum_by-cons long q ps)
certs_set (q ∷ ps) (suc k) p lt = omega (arith, sum_by-cons long q (set ps k p), sum_by-cons long q ps, certs_set ps k p (omega arith))

pub part_here : (ps : List Part) (k : ℕ) (p : Part) → k < length ps → part_at (set ps k p) k ≡ p
part_here ps k p lt = get_or-set_same ps k p no_part lt

pub part_there : (ps : List Part) (k j : ℕ) (p : Part) → j ≢ k → part_at (set ps k p) j ≡ part_at ps j
part_there ps k j p apart = get_or-set_other ps k j p no_part apart

same_account : (x a : ℕ) → x / 64 ≡ a / 64 → x % 64 ≡ a % 64 → x ≡ a
same_account x a part row = omega (arith, part, row)

here_by : (r row b to : ℕ) (x y : Level) → r ≡ row → b ≡ to → (if (r == row) && (b == to) then x else y) ≡ x
here_by r row b to x y same is = grind (arith, nat_tests)

elsewhere_by : (r row b to : ℕ) (x y : Level) → r ≢ row → (if (r == row) && (b == to) then x else y) ≡ y
elsewhere_by r row b to x y apart = grind (arith, nat_tests)

others_by : (r row b to : ℕ) (x y : Level) → b ≢ to → (if (r == row) && (b == to) then x else y) ≡ y
others_by r row b to x y apart = grind (arith, nat_tests)

-- The premises.
pub record Putting : Type 0 where
  pub ps : List Part
  pub part : Part
  pub cert : Cert
  pub are : AreParts ps
  pub giver : cert.from < accounts ps
  pub taker : cert.to < accounts ps
  pub others : cert.from ≢ cert.to
  pub put : IsPut (part_of ps cert.from) part cert
  pub is : IsPart part
  pub fits : certs ps + graded cert.level ≤ MOST_CERTS + graded (standing ps cert.from cert.to)

abbrev place : Putting → ℕ
place m = m.cert.from / 64

abbrev new : Putting → List Part
new m = set m.ps (place m) m.part

inside : (m : Putting) → place m < length m.ps
inside m = part_within m.ps (are_full m.ps m.are) m.cert.from m.giver

long_new : (m : Putting) → length (new m) ≡ length m.ps
long_new m = length-set m.ps (place m) m.part

pub put_names : (m : Putting) → names (new m) ≡ names m.ps
put_names m = names_set m.ps (place m) m.part (inside m) m.put.names

pub put_seeds : (m : Putting) → (x : ℕ) → is_seed (new m) x ≡ is_seed m.ps x
put_seeds m x =
    elim (cases_eq (x / 64) (place m)) [
      | inl same ↦
          ap (λ (k : ℕ). marks_seed (part_at (new m) k) (x % 64)) same
          ∙ ap (λ (p : Part). marks_seed p (x % 64)) (part_here m.ps (place m) m.part (inside m))
          ∙ ap (λ (xs : List Bool). get_or xs (x % 64) false) m.put.seeds
          ∙ ap (λ (k : ℕ). marks_seed (part_at m.ps k) (x % 64)) (sym same)
      | inr apart ↦ ap (λ (p : Part). marks_seed p (x % 64)) (part_there m.ps (place m) (x / 64) m.part apart)
    ]

pub put_standing : (m : Putting) → (x b : ℕ) → standing (new m) x b ≡ (if (x == m.cert.from) && (b == m.cert.to) then m.cert.level else standing m.ps x b)
put_standing m x b =
    elim (cases_eq (x / 64) (place m)) [
      | inr apart ↦
          ap (λ (p : Part). standing_in p (x % 64) b) (part_there m.ps (place m) (x / 64) m.part apart)
          ∙ sym (elsewhere_by x m.cert.from b m.cert.to m.cert.level (standing m.ps x b) (λ e. apart (ap (λ (n : ℕ). n / 64) e)))
      | inl same ↦
          let now : standing (new m) x b ≡ (if (x % 64 == row_of m.cert.from) && (b == m.cert.to) then m.cert.level else standing_in (part_of m.ps m.cert.from) (x % 64) b) =
          ap (λ (k : ℕ). standing_in (part_at (new m) k) (x % 64) b) same
          ∙ ap (λ (p : Part). standing_in p (x % 64) b) (part_here m.ps (place m) m.part (inside m))
          ∙ m.put.standing (x % 64) b in
          let was : standing_in (part_of m.ps m.cert.from) (x % 64) b ≡ standing m.ps x b = ap (λ (k : ℕ). standing_in (part_at m.ps k) (x % 64) b) (sym same) in
          elim (cases_eq (x % 64) (m.cert.from % 64)) [
            | inr other ↦
                now ∙ elsewhere_by (x % 64) (row_of m.cert.from) b m.cert.to m.cert.level (standing_in (part_of m.ps m.cert.from) (x % 64) b) other ∙ was
                ∙ sym (elsewhere_by x m.cert.from b m.cert.to m.cert.level (standing m.ps x b) (λ e. other (ap (λ (n : ℕ). n % 64) e)))
            | inl row ↦ elim (cases_eq b m.cert.to) [
              | inl is ↦
                  now ∙ here_by (x % 64) (row_of m.cert.from) b m.cert.to m.cert.level (standing_in (part_of m.ps m.cert.from) (x % 64) b) row is
                  ∙ sym (here_by x m.cert.from b m.cert.to m.cert.level (standing m.ps x b) (same_account x m.cert.from same row) is)
              | inr far ↦
                  now ∙ others_by (x % 64) (row_of m.cert.from) b m.cert.to m.cert.level (standing_in (part_of m.ps m.cert.from) (x % 64) b) far ∙ was
                  ∙ sym (others_by x m.cert.from b m.cert.to m.cert.level (standing m.ps x b) far)
            ]
          ]
    ]

pub put_certs : (m : Putting) → certs (new m) + graded (standing m.ps m.cert.from m.cert.to) ≡ certs m.ps + graded m.cert.level
put_certs m = omega (arith, certs_set m.ps (place m) m.part (inside m), m.put.certs)

part_new : (m : Putting) (k : ℕ) → k < length m.ps → IsPart (part_at (new m) k)
part_new m k lt =
    elim (cases_eq k (place m)) [
      | inl same ↦ subst (λ (n : ℕ). IsPart (part_at (new m) n)) (sym same) (subst IsPart (sym (part_here m.ps (place m) m.part (inside m))) m.is)
      | inr apart ↦ subst IsPart (sym (part_there m.ps (place m) k m.part apart)) (m.are.parts k lt)
    ]

pub count_new : (m : Putting) (k : ℕ) → count (part_at (new m) k) ≡ count (part_at m.ps k)
count_new m k =
    elim (cases_eq k (place m)) [
      | inl same ↦ ap (λ (n : ℕ). count (part_at (new m) n)) same ∙ ap count (part_here m.ps (place m) m.part (inside m)) ∙ ap length m.put.names ∙ ap (λ (n : ℕ). count (part_at m.ps n)) (sym same)
      | inr apart ↦ ap count (part_there m.ps (place m) k m.part apart)
    ]

-- whom a certificate of the new parts is for
standing_taker : (m : Putting) (x i : ℕ) → x < accounts m.ps → i < degree (new m) x → IsGrade (standing (new m) x (taker (new m) x i))
standing_taker m x i below within =
    let k : x / 64 < length m.ps = part_within m.ps (are_full m.ps m.are) x below in
    let row : x % 64 < count (part_of (new m) x) = omega (arith, count_new m (x / 64), row_within m.ps (are_full m.ps m.are) x below) in
    let is : IsPart (part_of (new m) x) = part_new m (x / 64) k in
    subst IsGrade (sym (among-at (taker_in (part_of (new m) x) (x % 64)) (level_in (part_of (new m) x) (x % 64)) i (degree (new m) x) (λ j q before lt. is.rises (x % 64) j q row before lt) within)) (is.grade (x % 64) i row within)

-- it is the new one, or one for whom there was one
abbrev Known : (m : Putting) (x t : ℕ) → Type 0
Known m x t = ((x ≡ m.cert.from) × (t ≡ m.cert.to)) ⊎ ((j : ℕ) × (j < degree m.ps x) × (taker m.ps x j ≡ t))

known : (m : Putting) (x t : ℕ) → IsGrade (standing (new m) x t) → Known m x t
known m x t grade =
    let was : standing (new m) x t ≡ standing m.ps x t → (j : ℕ) × (j < degree m.ps x) × (taker m.ps x j ≡ t) = λ e.
    among-found (taker_in (part_of m.ps x) (x % 64)) (level_in (part_of m.ps x) (x % 64)) t (degree m.ps x) (subst IsGrade e grade) in
    elim (cases_eq x m.cert.from) [
      | inr apart ↦ inr (was (put_standing m x t ∙ elsewhere_by x m.cert.from t m.cert.to m.cert.level (standing m.ps x t) apart))
      | inl same ↦ elim (cases_eq t m.cert.to) [
        | inl is ↦ inl (same, is)
        | inr far ↦ inr (was (put_standing m x t ∙ others_by x m.cert.from t m.cert.to m.cert.level (standing m.ps x t) far))
      ]
    ]

below_new : (m : Putting) (x i : ℕ) → x < accounts m.ps → i < degree (new m) x → taker (new m) x i < accounts m.ps
below_new m x i below within =
    elim (known m x (taker (new m) x i) (standing_taker m x i below within)) [
      | inl h ↦ omega (arith, h.1, m.taker)
      | inr h ↦ omega (arith, h.2, m.are.below x h.0 below h.1)
    ]

others_new : (m : Putting) (x i : ℕ) → x < accounts m.ps → i < degree (new m) x → taker (new m) x i ≢ x
others_new m x i below within e =
    elim (known m x (taker (new m) x i) (standing_taker m x i below within)) [
      | inl h ↦ m.others (sym h.0 ∙ sym e ∙ h.1)
      | inr h ↦ m.are.others x h.0 below h.1 (h.2 ∙ e)
    ]

giver_here : (m : Putting) (x : ℕ) → x / 64 ≡ place m → x < accounts m.ps → 0 < degree (new m) x → giver_in (part_of (new m) x) (x % 64) ≡ x
giver_here m x same below some =
    let now : giver_in (part_of (new m) x) (x % 64) ≡ get_or (set (part_of m.ps m.cert.from).givers (row_of m.cert.from) m.cert.from) (x % 64) 0 =
    ap (λ (k : ℕ). giver_in (part_at (new m) k) (x % 64)) same
    ∙ ap (λ (p : Part). giver_in p (x % 64)) (part_here m.ps (place m) m.part (inside m))
    ∙ ap (λ (xs : List ℕ). get_or xs (x % 64) 0) m.put.givers in
    elim (cases_eq (x % 64) (m.cert.from % 64)) [
      | inl row ↦
          let here : row_of m.cert.from < length (part_of m.ps m.cert.from).givers = omega (arith, (part_is m.ps m.are (place m)).givers, row_within m.ps (are_full m.ps m.are) m.cert.from m.giver) in
          now ∙ ap (λ (r : ℕ). get_or (set (part_of m.ps m.cert.from).givers (row_of m.cert.from) m.cert.from) r 0) row
          ∙ get_or-set_same (part_of m.ps m.cert.from).givers (row_of m.cert.from) m.cert.from 0 here
          ∙ sym (same_account x m.cert.from same row)
      | inr apart ↦
          let was : 0 < degree m.ps x = elim (known m x (taker (new m) x 0) (standing_taker m x 0 below some)) [
            | inl h ↦ absurd (apart (ap (λ (n : ℕ). n % 64) h.0))
            | inr h ↦ omega (arith, h.1)
          ] in
          now ∙ get_or-set_other (part_of m.ps m.cert.from).givers (row_of m.cert.from) (x % 64) m.cert.from 0 apart
          ∙ ap (λ (k : ℕ). giver_in (part_at m.ps k) (x % 64)) (sym same) ∙ m.are.giver x below was
    ]

giver_new : (m : Putting) (x : ℕ) → x < accounts m.ps → 0 < degree (new m) x → giver_in (part_of (new m) x) (x % 64) ≡ x
giver_new m x below some =
    elim (cases_eq (x / 64) (place m)) [
      | inl same ↦ giver_here m x same below some
      | inr apart ↦
          let there : part_of (new m) x ≡ part_of m.ps x = part_there m.ps (place m) (x / 64) m.part apart in
          let was : 0 < degree m.ps x = omega (arith, ap (λ (p : Part). degree_in p (x % 64)) there) in
          ap (λ (p : Part). giver_in p (x % 64)) there ∙ m.are.giver x below was
    ]

pub put_parts : (m : Putting) → AreParts (new m)
put_parts m =
    let n : accounts (new m) ≡ accounts m.ps = ap length (put_names m) in
    record {
      parts = λ k lt. part_new m k (omega (arith, long_new m));
      full = λ k lt. count_new m k ∙ m.are.full k (omega (arith, long_new m));
      giver = λ x below some. giver_new m x (omega (arith, n)) some;
      below = λ x i below within. omega (arith, n, below_new m x i (omega (arith, n)) within);
      others = λ x i below within. others_new m x i (omega (arith, n)) within;
      few = omega (arith, n, m.are.few);
      few_certs = omega (arith, put_certs m, m.fits);
      apart = subst (λ (ns : List (List ℕ)). AreApart ns) (sym (put_names m)) m.are.apart;
    }
