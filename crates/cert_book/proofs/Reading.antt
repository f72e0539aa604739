-- The certificates that an account gives, and those that it has taken, as they are read one by one.
use Rattle.std.proofs.Common.{ℕ, true, ◌≡◌, ◌≤◌, ◌<◌, ◌%◌, inl, inr, refl, arith, sym, ap, subst, ◌∙◌, List, length, get_or, slice_get, Some}
use Rattle.std.proofs.lemmas.Bool.{cases_lt}
use Rattle.trust_types.specs.declared.levels.Level.{Level}
use Rattle.trust_types.specs.declared.graphs.Cert.{Cert}
use Rattle.trust_types.specs.Levels.{IsGrade, is_grade}
use Rattle.trust_types.specs.Rows.{GivesEachOnce}
use Rattle.cert_log.proofs.Listing.{graded as grade_by_test, grade_is}
use Rattle.frozen.specs.Parts.{Part, degree_in, giver_in, given_in}
use Rattle.frozen.specs.Sites.{part_of, accounts, degree, taker, given, standing, certificates_of, AreParts}
use Rattle.frozen.proofs.Readers.{gives_each_once, given_is, outside}
use Rattle.cert_book.specs.Books.{is_standing}
use Rattle.cert_book.specs.inner.Takings.{Rises, has}
use Rattle.cert_book.proofs.Listing.{Lists, AreItems, passing, listed, lists_few}
use Rattle.cert_book.proofs.Rising.{has_at, stands_at}

-- One account's word for another, as it stands.
abbrev pub word : List Part → ℕ → ℕ → Cert
word ps a c = record { from = a; to = c; level = standing ps a c }

given_lists : (ps : List Part) (a : ℕ) → AreParts ps → a < accounts ps → Lists (λ c. is_grade (standing ps a c)) (accounts ps) (degree ps a) (taker ps a)
given_lists ps a are below =
    let once : GivesEachOnce (certificates_of ps) (degree ps) (given ps) = gives_each_once ps are in
    record {
      rises = λ i j before lt. once.rises a i j below before lt;
      below = λ i lt. are.below a i below lt;
      pass = λ i lt. grade_is (standing ps a (taker ps a i)) (subst IsGrade (sym (once.stands a i below lt)) (once.grade a i below lt));
      whole = λ c lt holds. once.complete a c below lt (grade_by_test (standing ps a c) holds);
    }

given_items : (ps : List Part) (a : ℕ) → AreParts ps → a < accounts ps → AreItems (passing is_standing (word ps a) (accounts ps)) (degree ps a) (word ps a) (taker ps a)
given_items ps a are below = listed is_standing (word ps a) (accounts ps) (degree ps a) (taker ps a) (given_lists ps a are below)

pub given_long : (ps : List Part) (a : ℕ) → AreParts ps → a < accounts ps → length (passing is_standing (word ps a) (accounts ps)) ≡ degree ps a
given_long ps a are below = (given_items ps a are below).long

pub given_read : (ps : List Part) (a i : ℕ) (p : Part) → AreParts ps → a < accounts ps → i < degree ps a → p ≡ part_of ps a → giver_in p (a % 64) ≡ a
    → slice_get (passing is_standing (word ps a) (accounts ps)) i ≡ Some (given_in p (a % 64) i)
given_read ps a i p are below lt is own =
    let once : GivesEachOnce (certificates_of ps) (degree ps) (given ps) = gives_each_once ps are in
    let level : word ps a (taker ps a i) ≡ given ps a i = ap (λ (l : Level). cert a (taker ps a i) l) (once.stands a i below lt) in
    (given_items ps a are below).each i lt ∙ ap Some (level ∙ sym (given_is ps a i p is own))
  where
    cert : ℕ → ℕ → Level → Cert
    cert from to l = record { from = from; to = to; level = l }

-- What is read of the account's block.
pub given_within : (ps : List Part) (a i : ℕ) (p : Part) → AreParts ps → a < accounts ps → p ≡ part_of ps a → i < length (passing is_standing (word ps a) (accounts ps)) → i < degree_in p (a % 64)
given_within ps a i p are below is lt = omega (arith, lt, given_long ps a are below, ap (λ (q : Part). degree_in q (a % 64)) is)

pub given_reads : (ps : List Part) (a i : ℕ) (p : Part) (cert : Cert) → AreParts ps → a < accounts ps → p ≡ part_of ps a → (0 < degree_in p (a % 64) → giver_in p (a % 64) ≡ a)
    → i < length (passing is_standing (word ps a) (accounts ps)) → cert ≡ given_in p (a % 64) i → slice_get (passing is_standing (word ps a) (accounts ps)) i ≡ Some cert
given_reads ps a i p cert are below is own lt read =
    let within : i < degree_in p (a % 64) = given_within ps a i p are below is lt in
    let there : i < degree ps a = omega (arith, within, ap (λ (q : Part). degree_in q (a % 64)) is) in
    given_read ps a i p are below there is (own (omega (arith, within))) ∙ ap Some (sym read)

below_by : (ps : List Part) (x b : ℕ) → AreParts ps → is_grade (standing ps x b) ≡ true → x < accounts ps
below_by ps x b are holds = elim (cases_lt x (accounts ps)) [
  | inl below ↦ below
  | inr past ↦ absurd (grade_by_test (standing ps x b) holds (outside ps are x b past))
]

taken_lists : (ps : List Part) (xs : List ℕ) (b : ℕ) → AreParts ps → Rises xs → ((a : ℕ) → has xs a ≡ is_grade (standing ps a b)) → Lists (λ a. is_grade (standing ps a b)) (accounts ps) (length xs) (λ i. get_or xs i 0)
taken_lists ps xs b are rises tells =
    let pass : (i : ℕ) → i < length xs → is_grade (standing ps (get_or xs i 0) b) ≡ true = λ i lt. sym (tells (get_or xs i 0)) ∙ has_at xs i (get_or xs i 0) lt refl in
    record {
      rises = rises;
      below = λ i lt. below_by ps (get_or xs i 0) b are (pass i lt);
      pass = pass;
      whole = λ a lt holds. stands_at xs a (tells a ∙ holds);
    }

pub taken_items : (ps : List Part) (xs : List ℕ) (b : ℕ) → AreParts ps → Rises xs → ((a : ℕ) → has xs a ≡ is_grade (standing ps a b))
    → AreItems (passing is_standing (λ a. word ps a b) (accounts ps)) (length xs) (λ a. word ps a b) (λ i. get_or xs i 0)
taken_items ps xs b are rises tells = listed is_standing (λ a. word ps a b) (accounts ps) (length xs) (λ i. get_or xs i 0) (taken_lists ps xs b are rises tells)

pub taken_below : (ps : List Part) (xs : List ℕ) (b i : ℕ) → AreParts ps → Rises xs → ((a : ℕ) → has xs a ≡ is_grade (standing ps a b)) → i < length xs → get_or xs i 0 < accounts ps
taken_below ps xs b i are rises tells lt = (taken_lists ps xs b are rises tells).below i lt

pub taken_few : (ps : List Part) (xs : List ℕ) (b : ℕ) → AreParts ps → Rises xs → ((a : ℕ) → has xs a ≡ is_grade (standing ps a b)) → length xs ≤ accounts ps
taken_few ps xs b are rises tells = lists_few (λ a. is_grade (standing ps a b)) (accounts ps) (length xs) (λ i. get_or xs i 0) (taken_lists ps xs b are rises tells)
