-- What a change is that a judge accepts.
use Rattle.std.proofs.Common.{ℕ, Bool, true, false, not, ◌&&◌, ◌==◌, nat_lt, nat_le, if◌then◌else◌, ◌≡◌, ◌≢◌, ◌≤◌, ◌<◌, ◌+◌, refl, arith, sym, ap, subst, ◌∙◌, List, length, Option, Some, None, Result, Ok, Err, All, OnOk}
use Rattle.std.specs.List.{Any, Contains}
use Rattle.std.proofs.lemmas.Bool.Decides.{nat_tests}
use Rattle.std.proofs.lemmas.List.{get_or_default}
use Rattle.std.proofs.lemmas.List.Folds.{Any-from_list_any}
use Rattle.std.proofs.lemmas.Slice.Eq.{bytes_eq-Decides}
use Rattle.trust_types.specs.declared.graphs.Cert.{Cert}
use Rattle.trust_types.specs.declared.limits.TheConstants.{MOST_ACCOUNTS, MOST_CERTS}
use Rattle.trust_types.specs.Levels.{is_grade, rank}
use Rattle.trust_types.specs.Names.{IsName, is_name}
use Rattle.trust_types.specs.NameLists.{number_of}
use Rattle.trust_types.specs.Tables.{Table, has_level}
use Rattle.trust_types.specs.Changes.{Joined, Seeded, Unseeded, Certified, Tabled}
use Rattle.name_index.proofs.Indexing.{differs, not_found}
use Rattle.cert_book.specs.declared.judging.CertFault.{CertFault}
use Rattle.cert_book.specs.declared.judging.CertFault.TheVariants.{NotSeed, LastSeed}
use Rattle.cert_book.specs.Books.{Book, IsAccount, accounts, Follows, HasPlace}
use Rattle.cert_book.specs.Judged.{Judged, ◌>>=◌, fault_if, fault_unless, not_taken, has_other_seed, same_level, same_table, judged_name, judged_seeding, judged_unseeding, judged_certifying, judged_table}

-- Each step of what was accepted was.
first : {B : Type 0} (x : Judged) (f : Unit {0} → Result B CertFault) (y : B) → (x >>= f) ≡ Ok y → x ≡ Ok tt
first (Ok u) f y e = refl
first (Err fault) f y e = absurd (cc)

later : {B : Type 0} (x : Judged) (f : Unit {0} → Result B CertFault) (y : B) → (x >>= f) ≡ Ok y → f tt ≡ Ok y
later (Ok u) f y e = e
later (Err fault) f y e = absurd (cc)

passed_if : (test : Bool) (fault : CertFault) → fault_if test fault ≡ Ok tt → test ≡ false
passed_if true fault e = absurd (cc)
passed_if false fault e = refl

pub passed_unless : (test : Bool) (fault : CertFault) → fault_unless test fault ≡ Ok tt → test ≡ true
passed_unless true fault e = refl
passed_unless false fault e = absurd (cc)

free : (found : Option ℕ) → not_taken found ≡ Ok tt → found ≡ None
free (Some a) e = absurd (cc)
free None e = refl

pub on_ok : (r : Judged) (P : Type 0) → (r ≡ Ok tt → P) → OnOk r P
on_ok (Ok u) P f = f refl
on_ok (Err fault) P f = tt

-- No account has the name.
pub unknown : (names : List (List ℕ)) (name : List ℕ) → number_of names name ≡ None → ¬ (Contains names name)
unknown names name none there = differs names name none there.0 name there.1 there.2

pub none_has : (names : List (List ℕ)) (name : List ℕ) → ¬ (Contains names name) → number_of names name ≡ None
none_has names name new = not_found names name (λ k d lt same. new (k, lt, get_or_default names k name d lt ∙ same))

below_test : (limit n : ℕ) → nat_le limit n ≡ false → n < limit
below_test limit n e = grind arith

apart_test : (x y : ℕ) → (x == y) ≡ false → x ≢ y
apart_test x y e same = grind (arith, nat_tests)

same_test : (x y : ℕ) → x ≡ y → (x == y) ≡ true
same_test x y same = grind (arith, nat_tests)

contradiction : (b : Bool) → b ≡ true → b ≡ false → ⊥
contradiction b t f = absurd (cc)

pub name_follows : (b : Book) (name : List ℕ) (r : Judged) → r ≡ judged_name b name → OnOk r (Follows b (Joined name))
name_follows b name r is = on_ok r (Follows b (Joined name)) (λ ok.
    unknown b.names name (free (number_of b.names name) (first (not_taken (number_of b.names name)) _ tt (sym is ∙ ok))))

pub name_has_place : (b : Book) (name : List ℕ) (r : Judged) → r ≡ judged_name b name → OnOk r (HasPlace b (Joined name))
name_has_place b name r is = on_ok r (HasPlace b (Joined name)) (λ ok.
    below_test MOST_ACCOUNTS (length b.names) (passed_if (nat_le MOST_ACCOUNTS (length b.names)) _ (later (not_taken (number_of b.names name)) _ tt (sym is ∙ ok))))

pub seeding_follows : (b : Book) (a : ℕ) (r : Judged) → IsAccount b a → r ≡ judged_seeding b a → OnOk r (Follows b (Seeded a))
seeding_follows b a r below is = on_ok r (Follows b (Seeded a)) (λ ok. (below, passed_if (b.is_seed a) _ (sym is ∙ ok)))

both : (s t : Bool) → (s && t) ≡ true → (s ≡ true) × (t ≡ true)
both true t e = (refl, e)
both false t e = absurd (cc)

not_true : (t : Bool) → not t ≡ true → t ≡ false
not_true true e = absurd (cc)
not_true false e = refl

abbrev Other : Book → ℕ → Type 0
Other b a = (other : ℕ) × (other ≢ a) × (b.is_seed other ≡ true)

another : (b : Book) (a : ℕ) → has_other_seed b a ≡ true → Other b a
another b a e =
    let any : Any (λ (x : ℕ). (b.is_seed x && not (x == a)) ≡ true) (accounts b) = Any-from_list_any (λ (x : ℕ). b.is_seed x && not (x == a)) (accounts b) e in
    let is = both (b.is_seed any.1) (not (any.1 == a)) any.4 in
    (any.1, apart_test any.1 a (not_true (any.1 == a) is.1), is.0)

pub unseeding_follows : (b : Book) (a : ℕ) (r : Judged) → IsAccount b a → r ≡ judged_unseeding b a → OnOk r (Follows b (Unseeded a))
unseeding_follows b a r below is = on_ok r (Follows b (Unseeded a)) (λ ok. (
  below,
  passed_unless (b.is_seed a) _ (first (fault_unless (b.is_seed a) _) _ tt (sym is ∙ ok)),
  another b a (passed_unless (has_other_seed b a) _ (later (fault_unless (b.is_seed a) _) _ tt (sym is ∙ ok))),
))

four : (t1 t2 t3 t4 : Bool) (f1 f2 f3 f4 : CertFault) → (fault_if t1 f1 >>= λ _. (fault_unless t2 f2 >>= λ _. (fault_if t3 f3 >>= λ _. fault_if t4 f4))) ≡ Ok tt
    → (t1 ≡ false) × (t2 ≡ true) × (t3 ≡ false) × (t4 ≡ false)
four true t2 t3 t4 f1 f2 f3 f4 e = absurd (cc)
four false false t3 t4 f1 f2 f3 f4 e = absurd (cc)
four false true true t4 f1 f2 f3 f4 e = absurd (cc)
four false true false true f1 f2 f3 f4 e = absurd (cc)
four false true false false f1 f2 f3 f4 e = (refl, refl, refl, refl)

abbrev Passed : Book → Cert → Type 0
Passed b c =
    ((c.from == c.to) ≡ false) × (has_level b.table c.level ≡ true) × (same_level c.level (b.standing c.from c.to) ≡ false)
    × ((nat_le MOST_CERTS b.certs && not (is_grade (b.standing c.from c.to))) ≡ false)

passed : (b : Book) (c : Cert) → judged_certifying b c ≡ Ok tt → Passed b c
passed b c e = four (c.from == c.to) (has_level b.table c.level) (same_level c.level (b.standing c.from c.to)) (nat_le MOST_CERTS b.certs && not (is_grade (b.standing c.from c.to))) _ _ _ _ e

pub certifying_follows : (b : Book) (c : Cert) (r : Judged) → IsAccount b c.from → IsAccount b c.to → r ≡ judged_certifying b c → OnOk r (Follows b (Certified c))
certifying_follows b c r from to is = on_ok r (Follows b (Certified c)) (λ ok.
    let p = passed b c (sym is ∙ ok) in
    (from, to, apart_test c.from c.to p.0, p.1, λ same. contradiction (same_level c.level (b.standing c.from c.to)) (same_test (rank c.level) (rank (b.standing c.from c.to)) (ap rank same)) p.2))

fits_by : (certs : ℕ) (l s : Bool) → certs ≤ MOST_CERTS → (nat_le MOST_CERTS certs && not s) ≡ false → certs + (if l then 1 else 0) ≤ MOST_CERTS + (if s then 1 else 0)
fits_by certs true true few e = omega arith
fits_by certs false true few e = omega arith
fits_by certs true false few e = let lt : certs < MOST_CERTS = below_test MOST_CERTS certs (alone (nat_le MOST_CERTS certs) e) in omega arith
  where
    alone : (t : Bool) → (t && true) ≡ false → t ≡ false
    alone true h = h
    alone false h = refl
fits_by certs false false few e = omega arith

pub certifying_has_place : (b : Book) (c : Cert) (r : Judged) → b.certs ≤ MOST_CERTS → r ≡ judged_certifying b c → OnOk r (HasPlace b (Certified c))
certifying_has_place b c r few is = on_ok r (HasPlace b (Certified c)) (λ ok.
    fits_by b.certs (is_grade c.level) (is_grade (b.standing c.from c.to)) few (passed b c (sym is ∙ ok)).3)

not_below : (x y : ℕ) → nat_lt x y ≡ false → y ≤ x
not_below x y e = grind arith

same_tables : (t u : Table) → t ≡ u → same_table t u ≡ true
same_tables t u same = both_true _ _ (same_test t.levels u.levels (ap (λ (x : Table). x.levels) same)) ((bytes_eq-Decides t.entries u.entries).1 (ap (λ (x : Table). x.entries) same))
  where
    both_true : (s r : Bool) → s ≡ true → r ≡ true → (s && r) ≡ true
    both_true s r e h = cc

pub table_follows : (b : Book) (t : Table) (r : Judged) → r ≡ judged_table b t → OnOk r (Follows b (Tabled t))
table_follows b t r is = on_ok r (Follows b (Tabled t)) (λ ok. (
  not_below t.levels b.table.levels (passed_if (nat_lt t.levels b.table.levels) _ (first (fault_if (nat_lt t.levels b.table.levels) _) _ tt (sym is ∙ ok))),
  λ same. contradiction (same_table t b.table) (same_tables t b.table same) (passed_if (same_table t b.table) _ (later (fault_if (nat_lt t.levels b.table.levels) _) _ tt (sym is ∙ ok))),
))

-- A word that is no name is no account's.
pub unnamed : (names : List (List ℕ)) (word : List ℕ) → All IsName names → is_name word ≡ false → number_of names word ≡ None
unnamed names word named bad = not_found names word (λ k d lt same. contradiction (is_name word) (subst (λ (w : List ℕ). is_name w ≡ true) same (named k d lt)) bad)

not_name : (b : Bool) (w : List ℕ) → None ≡ (if b then Some w else None) → b ≡ false
not_name true w e = absurd (cc)
not_name false w e = refl

-- No account has a word that is read as no name.
pub unread : (names : List (List ℕ)) (word : List ℕ) → All IsName names → None ≡ (if is_name word then Some word else None) → number_of names word ≡ None
unread names word named none = unnamed names word named (not_name (is_name word) word none)

unseeding_by : (s t : Bool) (f g : CertFault) → s ≡ true → fault_unless t g ≡ (fault_unless s f >>= λ _. fault_unless t g)
unseeding_by true t f g e = refl
unseeding_by false t f g e = absurd (cc)

pub unseeding_judged : (b : Book) (a : ℕ) (r : Judged) → b.is_seed a ≡ true → r ≡ fault_unless (has_other_seed b a) LastSeed → r ≡ judged_unseeding b a
unseeding_judged b a r seed is = is ∙ unseeding_by (b.is_seed a) (has_other_seed b a) NotSeed LastSeed seed
