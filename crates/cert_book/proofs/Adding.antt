-- A book takes one change more.
use Rattle.std.proofs.Common.{ℕ, false, ◌≡◌, ◌+◌, refl, arith, sym, ap, subst, ◌∙◌, List, [], ◌∷◌, ◌++◌, length, fold, Result, Ok, Err, IfOk}
use Rattle.std.proofs.lemmas.List.{append-nil, length_push}
use Rattle.std.proofs.lemmas.List.Elements.{filter_map-append}
use Rattle.std.proofs.lemmas.List.Sums.{fold-append}
use Rattle.trust_types.specs.declared.levels.Level.TheVariants.{Observer}
use Rattle.trust_types.specs.declared.graphs.Cert.{Cert}
use Rattle.trust_types.specs.Tables.{Table}
use Rattle.trust_types.specs.Changes.{Change, Joined, Seeded, Unseeded, Certified, Tabled, joined_name, names as names_of, seed_after, table_after, cert_of, certs_among, level_after, standing_among, standing_count}
use Rattle.cert_log.proofs.Counting.{count_push}
use Rattle.frozen.specs.Parts.{Part}
use Rattle.frozen.specs.Writes.{graded}
use Rattle.frozen.specs.Sites.{names, is_seed, standing, certs}
use Rattle.frozen.specs.Revision.{Revision, revision_of}
use Rattle.trust_types.specs.declared.records.Record.{Record}
use Rattle.trust_types.specs.Kept.{changes}
use Rattle.cert_book.specs.Books.{Book, book_of, Adds, Freezes}
use Rattle.cert_book.specs.inner.Blocks.{IsAfter, standing_after, replaced, placed}
use Rattle.cert_book.proofs.Keeping.{no_standing, no_seed}

-- The certificates of changes with one more.
certs_push : (changes : List Change) (change : Change) → certs_among (changes ++ change ∷ []) ≡ certs_among changes ++ certs_among (change ∷ [])
certs_push changes change = filter_map-append cert_of changes (change ∷ [])

same_count : (cs ds : List Cert) (n m : ℕ) → m + 0 ≡ n + 0 → n ≡ standing_count cs → ds ≡ cs ++ [] → m ≡ standing_count ds
same_count cs ds n m counts is e = omega (arith, counts, is, ap standing_count (e ∙ append-nil cs))

-- How many certificates stand after it.
count_after : (changes : List Change) (change : Change) (ps : List Part) (n m : ℕ) → m + replaced ps change ≡ n + placed change → n ≡ standing_count (certs_among changes)
    → ((a b : ℕ) → standing ps a b ≡ standing_among (certs_among changes) a b) → m ≡ standing_count (certs_among (changes ++ change ∷ []))
count_after changes (Joined name) ps n m counts is stands = same_count (certs_among changes) _ n m counts is (certs_push changes (Joined name))
count_after changes (Seeded a) ps n m counts is stands = same_count (certs_among changes) _ n m counts is (certs_push changes (Seeded a))
count_after changes (Unseeded a) ps n m counts is stands = same_count (certs_among changes) _ n m counts is (certs_push changes (Unseeded a))
count_after changes (Tabled table) ps n m counts is stands = same_count (certs_among changes) _ n m counts is (certs_push changes (Tabled table))
count_after changes (Certified c) ps n m counts is stands =
    let pushed : standing_count (certs_among changes ++ c ∷ []) + graded (standing_among (certs_among changes) c.from c.to) ≡ standing_count (certs_among changes) + graded c.level = count_push (certs_among changes) c in
    let was : graded (standing ps c.from c.to) ≡ graded (standing_among (certs_among changes) c.from c.to) = ap graded (stands c.from c.to) in
    omega (arith, counts, is, was, pushed, ap standing_count (certs_push changes (Certified c)))

-- The book of a site's parts.
abbrev pub book_at : ℕ → Table → List Part → Book
book_at n table ps = record { revision = n; table = table; names = names ps; is_seed = is_seed ps; standing = standing ps; certs = certs ps }

pub adds : (n : ℕ) (old new : Table) (ps qs : List Part) (change : Change) → IsAfter change ps qs → new ≡ table_after old change → Adds (book_at n old ps) (book_at (n + 1) new qs) change
adds n old new ps qs change after table_is opening changes is =
    let revision : n + 1 ≡ length (changes ++ change ∷ []) = omega (arith, ap (λ (b : Book). b.revision) is, length_push changes change) in
    let table : new ≡ fold table_after opening (changes ++ change ∷ []) =
    table_is ∙ ap (λ (b : Book). table_after b.table change) is ∙ sym (fold-append table_after opening changes (change ∷ [])) in
    let named : names qs ≡ names_of (changes ++ change ∷ []) =
    after.names ∙ ap (λ (b : Book). b.names ++ names_of (change ∷ [])) is ∙ sym (filter_map-append joined_name changes (change ∷ [])) in
    let seeds : (a : ℕ) → is_seed qs a ≡ fold (seed_after a) false (changes ++ change ∷ []) = λ a.
    after.seeds a ∙ ap (λ (b : Book). seed_after a (b.is_seed a) change) is ∙ sym (fold-append (seed_after a) false changes (change ∷ [])) in
    let stands : (a b : ℕ) → standing qs a b ≡ standing_among (certs_among (changes ++ change ∷ [])) a b = λ a b.
    after.standing a b ∙ ap (λ (x : Book). standing_after a b (x.standing a b) change) is
    ∙ sym (ap (λ cs. fold (level_after a b) Observer cs) (certs_push changes change) ∙ fold-append (level_after a b) Observer (certs_among changes) (certs_among (change ∷ []))) in
    let count : certs qs ≡ standing_count (certs_among (changes ++ change ∷ [])) =
    count_after changes change ps (certs ps) (certs qs) after.certs (ap (λ (b : Book). b.certs) is) (λ a b. ap (λ (x : Book). x.standing a b) is) in
    λ i. record { revision = revision i; table = table i; names = named i; is_seed = λ a. seeds a i; standing = λ a b. stands a b i; certs = count i }

-- Another table leaves the parts as they are.
pub tabled_after : (table : Table) (ps : List Part) → IsAfter (Tabled table) ps ps
tabled_after table ps = record { names = sym (append-nil (names ps)); seeds = λ a. refl; standing = λ a b. refl; certs = refl }

-- A revision of a book's parts is that of its records.
pub frozen_records : (n : ℕ) (table : Table) (ps : List Part) (r : Revision) → r ≡ revision_of n table ps → (opening : Table) (k : List Record) → book_at n table ps ≡ book_of opening (changes k) → Freezes opening k r
frozen_records n table ps r is opening k e =
    let here : Freezes opening k (revision_of n table ps) = record {
      graph = record {
        accounts = ap (λ (b : Book). length b.names) e;
        seeds = λ a lt. ap (λ (b : Book). b.is_seed a) e;
        standing = λ a c lt_a lt_c. ap (λ (b : Book). b.standing a c) e;
      };
      names = ap (λ (b : Book). b.names) e;
      number = ap (λ (b : Book). b.revision) e;
      table = ap (λ (b : Book). b.table) e;
    } in
    subst (λ (x : Revision). Freezes opening k x) (sym is) here

-- What is known of a value is known of it where there is one.
pub if_ok : {A E : Type 0} {P Q : A → Type 0} (r : Result A E) → ((x : A) → P x → Q x) → IfOk r P → IfOk r Q
if_ok (Ok x) f h = f x h
if_ok (Err e) f h = h

-- Without changes.
pub new_book : (table : Table) → book_at 0 table [] ≡ book_of table []
new_book table = λ i. record { revision = 0; table = table; names = []; is_seed = λ a. no_seed a i; standing = λ a b. no_standing a b i; certs = 0 }
