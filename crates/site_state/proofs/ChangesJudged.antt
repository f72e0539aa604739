-- What a judgement of a change says, also where it is a refusal.
use Rattle.std.proofs.Common.{◌≡◌, ◌≢◌, ℕ, Bool, true, false, not, ◌&&◌, ◌==◌, nat_lt, nat_le, ◌≤◌, ◌<◌, ◌+◌, if◌then◌else◌, List, Contains, length, Option, Some, None, refl, sym, ap, ◌∙◌, arith}
use Rattle.std.specs.List.{Any, range_with_len}
use Rattle.std.proofs.lemmas.Bool.Decides.{nat_tests}
use Rattle.std.proofs.lemmas.List.FromFn.{length-range_with_len, get_or-range_with_len}
use Rattle.std.proofs.lemmas.List.Folds.{list_any_at, Any-from_list_any}
use Rattle.std.proofs.lemmas.List.{get_or_default}
use Rattle.std.proofs.lemmas.Slice.Eq.{bytes_eq-Decides}
use Rattle.trust_types.specs.declared.graphs.Cert.{Cert}
use Rattle.trust_types.specs.declared.levels.Level.{Level}
use Rattle.trust_types.specs.declared.levels.Level.TheVariants.{Observer, Apprentice, Journeyer, Master, Fellow, Warden, Elder}
use Rattle.trust_types.specs.declared.limits.TheConstants.{MOST_ACCOUNTS, MOST_CERTS}
use Rattle.trust_types.specs.Changes.{Joined, Certified, Tabled}
use Rattle.trust_types.specs.Levels.{is_grade, rank}
use Rattle.trust_types.specs.NameLists.{number_of}
use Rattle.trust_types.specs.Tables.{Table, has_level}
use Rattle.trust_types.proofs.Ranks.{same_from_ranks}
use Rattle.cert_book.specs.declared.judging.CertFault.TheVariants.{AccountsFull, SelfCert, NoSuchLevel, Same, CertsFull, NotSeed, LastSeed, LevelsFall}
use Rattle.cert_book.specs.Books.{Book, IsAccount, accounts, Follows, HasPlace}
use Rattle.cert_book.specs.Judged.{◌>>=◌, fault_if, fault_unless, not_taken, has_other_seed, same_level, same_table, judged_name, judged_seeding, judged_unseeding, judged_certifying, judged_table}
use Rattle.name_index.proofs.Indexing.{differs, not_found}
use Rattle.site_state.specs.inner.Opening.{Judges, by_certs}

pub false_true : false ≡ true → ⊥
false_true e = cc

both : (s t : Bool) → (s && t) ≡ true → (s ≡ true) × (t ≡ true)
both true t e = (refl, e)
both false t e = absurd (cc)

apart_from : (x y : ℕ) → (x == y) ≡ false → x ≢ y
apart_from x y e same = grind (arith, nat_tests)

not_true : (t : Bool) → not t ≡ true → t ≡ false
not_true true e = absurd (cc)
not_true false e = refl

-- a name that was found, or that stands nowhere
pub unknown : (names : List (List ℕ)) (name : List ℕ) → number_of names name ≡ None → ¬ (Contains names name)
unknown names name none there = differs names name none there.0 name there.1 there.2

pub none_has : (names : List (List ℕ)) (name : List ℕ) → ¬ (Contains names name) → number_of names name ≡ None
none_has names name new = not_found names name (λ k d lt same. new (k, lt, get_or_default names k name d lt ∙ same))

-- an account by its name
by_number : (b : Book) (name : List ℕ) (found : Option ℕ) (full : Bool) → number_of b.names name ≡ found → nat_le MOST_ACCOUNTS (length b.names) ≡ full
    → Judges (by_certs (not_taken found >>= λ _. fault_if full AccountsFull)) (¬ (Contains b.names name)) (length b.names < MOST_ACCOUNTS)
by_number b name (Some a) full number is = λ new. taken (sym number ∙ none_has b.names name new)
  where
    taken : Some a ≡ None → ⊥
    taken e = cc
by_number b name None true number is = (unknown b.names name number, λ room. grind arith)
by_number b name None false number is = (unknown b.names name number, grind arith)

pub name_judged : (b : Book) (name : List ℕ) → Judges (by_certs (judged_name b name)) (Follows b (Joined name)) (HasPlace b (Joined name))
name_judged b name = by_number b name (number_of b.names name) (nat_le MOST_ACCOUNTS (length b.names)) refl refl

-- a seed
by_seed : (s : Bool) → Judges (by_certs (fault_if s Same)) (s ≡ false) (Unit {0})
by_seed true = λ e. false_true (sym e)
by_seed false = (refl, tt)

pub seeding_judged : (b : Book) (a : ℕ) → Judges (by_certs (judged_seeding b a)) (b.is_seed a ≡ false) (Unit {0})
seeding_judged b a = by_seed (b.is_seed a)

abbrev Other : Book → ℕ → Type 0
Other b a = (other : ℕ) × (other ≢ a) × (b.is_seed other ≡ true)

by_seeds : (s t : Bool) (O : Type 0) → (t ≡ true → O) → (O → t ≡ true) → Judges (by_certs (fault_unless s NotSeed >>= λ _. fault_unless t LastSeed)) ((s ≡ true) × O) (Unit {0})
by_seeds true true O there found = ((refl, there refl), tt)
by_seeds true false O there found = λ x. false_true (found x.1)
by_seeds false t O there found = λ x. false_true x.0

other_test : (s : Bool) (x a : ℕ) → s ≡ true → x ≢ a → (s && not (x == a)) ≡ true
other_test s x a is apart = grind (arith, nat_tests)

-- another seed is among the accounts
another : (b : Book) (a : ℕ) → has_other_seed b a ≡ true → Other b a
another b a e =
    let any : Any (λ (x : ℕ). (b.is_seed x && not (x == a)) ≡ true) (accounts b) = Any-from_list_any (λ (x : ℕ). b.is_seed x && not (x == a)) (accounts b) e in
    let tests = both (b.is_seed any.1) (not (any.1 == a)) any.4 in
    (any.1, apart_from any.1 a (not_true (any.1 == a) tests.1), tests.0)

found_other : (b : Book) (a : ℕ) → ((x : ℕ) → b.is_seed x ≡ true → IsAccount b x) → Other b a → has_other_seed b a ≡ true
found_other b a known other =
    let n : ℕ = length b.names in
    let x : ℕ = other.0 in
    let within : x < n = known x other.2 in
    let here : 0 + x ≡ x = omega arith in
    list_any_at (λ (o : ℕ). b.is_seed o && not (o == a)) (range_with_len 0 n) x 0 (omega (arith, within, length-range_with_len 0 n))
    (ap (λ (o : ℕ). b.is_seed o && not (o == a)) (get_or-range_with_len 0 n x 0 within ∙ here) ∙ other_test (b.is_seed x) x a other.2 other.1)

pub unseeding_judged : (b : Book) (a : ℕ) → ((x : ℕ) → b.is_seed x ≡ true → IsAccount b x) → Judges (by_certs (judged_unseeding b a)) ((b.is_seed a ≡ true) × Other b a) (Unit {0})
unseeding_judged b a known = by_seeds (b.is_seed a) (has_other_seed b a) (Other b a) (another b a) (found_other b a known)

-- a certificate
by_tests : (s h l f : Bool) (n : ℕ) (A L P : Type 0) → (s ≡ true → ¬ A) → (s ≡ false → A) → (l ≡ true → ¬ L) → (l ≡ false → L) → (l ≡ false → f ≡ true → ¬ P) → (f ≡ false → P)
    → Judges (by_certs (fault_if s SelfCert >>= λ _. (fault_unless h (NoSuchLevel n) >>= λ _. (fault_if l Same >>= λ _. fault_if f CertsFull)))) (A × (h ≡ true) × L) P
by_tests true h l f n A L P self apart same new full place = λ x. self refl x.0
by_tests false false l f n A L P self apart same new full place = λ x. false_true x.1
by_tests false true true f n A L P self apart same new full place = λ x. same refl x.2
by_tests false true false true n A L P self apart same new full place = ((apart refl, refl, new refl), full refl refl)
by_tests false true false false n A L P self apart same new full place = ((apart refl, refl, new refl), place refl)

equal_from : (x y : ℕ) → (x == y) ≡ true → x ≡ y
equal_from x y e = grind (arith, nat_tests)

-- a level that is no grade is the lowest
lowest : (level : Level) → is_grade level ≡ false → rank level ≡ rank Observer
lowest Observer is = refl
lowest Apprentice is = absurd (cc)
lowest Journeyer is = absurd (cc)
lowest Master is = absurd (cc)
lowest Fellow is = absurd (cc)
lowest Warden is = absurd (cc)
lowest Elder is = absurd (cc)

equal_test : (x y : ℕ) → x ≡ y → (x == y) ≡ true
equal_test x y same = grind (arith, nat_tests)

-- of a pair that doesn't stand, another level is a grade
new_grade : (level stands : Level) → same_level level stands ≡ false → is_grade stands ≡ false → is_grade level ≡ true
new_grade level stands apart none = by_test (is_grade level) refl
  where
    by_test : (t : Bool) → is_grade level ≡ t → is_grade level ≡ true
    by_test true is = is
    by_test false is = absurd (false_true (sym apart ∙ equal_test (rank level) (rank stands) (lowest level is ∙ sym (lowest stands none))))

full_tests : (t g : Bool) → (t && not g) ≡ true → (t ≡ true) × (g ≡ false)
full_tests true true e = absurd (cc)
full_tests true false e = (refl, refl)
full_tests false g e = absurd (cc)

abbrev one_if : Bool → ℕ
one_if g = if g then 1 else 0

past : (certs : ℕ) (l s : Bool) → nat_le MOST_CERTS certs ≡ true → l ≡ true → s ≡ false → certs + one_if l ≤ MOST_CERTS + one_if s → ⊥
past certs true true e grade none le = absurd (false_true (sym none))
past certs false s e grade none le = absurd (false_true grade)
past certs true false e grade none le = grind arith

fits_by : (certs : ℕ) (l s : Bool) → certs ≤ MOST_CERTS → (nat_le MOST_CERTS certs && not s) ≡ false → certs + one_if l ≤ MOST_CERTS + one_if s
fits_by certs true true few e = omega arith
fits_by certs false true few e = omega arith
fits_by certs true false few e = let lt : certs < MOST_CERTS = below (nat_le MOST_CERTS certs) refl e in omega arith
  where
    below : (t : Bool) → nat_le MOST_CERTS certs ≡ t → (t && true) ≡ false → certs < MOST_CERTS
    below true is h = absurd (cc)
    below false is h = grind arith
fits_by certs false false few e = omega arith

pub certifying_judged : (b : Book) (c : Cert) → b.certs ≤ MOST_CERTS
    → Judges (by_certs (judged_certifying b c)) ((c.from ≢ c.to) × (has_level b.table c.level ≡ true) × (c.level ≢ b.standing c.from c.to)) (HasPlace b (Certified c))
certifying_judged b c few =
    let stands : Level = b.standing c.from c.to in
    by_tests (c.from == c.to) (has_level b.table c.level) (same_level c.level stands) (nat_le MOST_CERTS b.certs && not (is_grade stands)) b.table.levels
    (c.from ≢ c.to) (c.level ≢ stands) (HasPlace b (Certified c))
    (λ e apart. apart (equal_from c.from c.to e)) (λ e. apart_from c.from c.to e)
    (λ e new. new (same_from_ranks c.level stands (equal_from (rank c.level) (rank stands) e))) (λ e same. apart_from (rank c.level) (rank stands) e (ap rank same))
    (λ new e le. let tests = full_tests (nat_le MOST_CERTS b.certs) (is_grade stands) e in past b.certs (is_grade c.level) (is_grade stands) tests.0 (new_grade c.level stands new tests.1) tests.1 le)
    (λ e. fits_by b.certs (is_grade c.level) (is_grade stands) few e)

-- a table
by_table : (s t : Bool) (n : ℕ) (A L : Type 0) → (s ≡ true → ¬ A) → (s ≡ false → A) → (t ≡ true → ¬ L) → (t ≡ false → L)
    → Judges (by_certs (fault_if s (LevelsFall n) >>= λ _. fault_if t Same)) (A × L) (Unit {0})
by_table true t n A L falls keeps same new = λ x. falls refl x.0
by_table false true n A L falls keeps same new = λ x. same refl x.1
by_table false false n A L falls keeps same new = ((keeps refl, new refl), tt)

same_from : (t u : Table) → same_table t u ≡ true → t ≡ u
same_from t u e =
    let tests = both (t.levels == u.levels) _ e in
    let levels : t.levels ≡ u.levels = equal_from t.levels u.levels tests.0 in
    let entries : t.entries ≡ u.entries = (bytes_eq-Decides t.entries u.entries).0 tests.1 in
    λ i. record { levels = levels i; entries = entries i }

same_test : (t u : Table) → t ≡ u → same_table t u ≡ true
same_test t u same = both_true (t.levels == u.levels) _ (equal_test t.levels u.levels (ap (λ (x : Table). x.levels) same)) ((bytes_eq-Decides t.entries u.entries).1 (ap (λ (x : Table). x.entries) same))
  where
    both_true : (s r : Bool) → s ≡ true → r ≡ true → (s && r) ≡ true
    both_true s r e h = cc

pub table_judged : (b : Book) (t : Table) → Judges (by_certs (judged_table b t)) (Follows b (Tabled t)) (Unit {0})
table_judged b t =
    by_table (nat_lt t.levels b.table.levels) (same_table t b.table) b.table.levels (b.table.levels ≤ t.levels) (t ≢ b.table)
    (λ e le. grind arith) (λ e. grind arith) (λ e new. new (same_from t b.table e)) (λ e same. false_true (sym e ∙ same_test t b.table same))
