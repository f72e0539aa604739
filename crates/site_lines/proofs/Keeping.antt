-- The levels at which accounts stand certified by the lines of a site are its table's.
use Rattle.std.proofs.Common.{◌≡◌, ℕ, ◌+◌, ◌≤◌, Bool, true, false, List, [], ◌∷◌, ◌++◌, Result, Ok, Err, refl, sym, ◌∙◌, ap, subst, arith, codes, bytes_eq, nat_lt, nat_le}
use Rattle.std.proofs.lemmas.Bool.Decides.{nat_tests}
use Rattle.std.proofs.lemmas.List.Sums.{fold-append}
use Rattle.trust_types.specs.declared.levels.Level.{Level}
use Rattle.trust_types.specs.declared.levels.Level.TheVariants.{Observer}
use Rattle.trust_types.specs.declared.graphs.Cert.{Cert}
use Rattle.trust_types.specs.declared.limits.TheConstants.{MOST_CERTS}
use Rattle.trust_types.specs.declared.records.Record.{Record}
use Rattle.trust_types.specs.Tables.{Table, IsLevelCount, has_level}
use Rattle.trust_types.specs.Graph.{KeepsLevels}
use Rattle.trust_types.specs.Changes.{is_of_pair, level_after, standing_among, standing_count}
use Rattle.trust_types.specs.Kept.{accounts, is_seed, certs_of, standing, kept_certificates}
use Rattle.trust_types.proofs.Changing.{certs_of-join, certs_of-seed, certs_of-cert}
use Rattle.text_lines.specs.declared.faults.TextKind.{TextKind}
use Rattle.text_lines.specs.declared.faults.TextKind.TheVariants.{BadLine, Twice, TooMany}
use Rattle.text_lines.specs.declared.faults.TextFault.{TextFault}
use Rattle.text_lines.specs.Words.{words, is_line}
use Rattle.text_lines.specs.Steps.{fault_if, fault_unless}
use Rattle.text_lines.specs.Places.{three_words, level_in}
use Rattle.text_lines.specs.Reading.{reading}
use Rattle.text_lines.proofs.Following.{reading-bad, reading-more}
use Rattle.text_lines.proofs.Stepping.{bind-ok, level_in-ok}
use Rattle.site_lines.specs.Site.{join, seed, cert, new_name, known_account, pair_in, given_cert, account_line, seed_line, cert_line, form, site_line}

abbrev pub Keeps : Table → List Record → Type 0
Keeps table k = KeepsLevels table (kept_certificates k)

observer_by : (levels : ℕ) → 2 ≤ levels → nat_lt 0 levels ≡ true
observer_by levels some = grind (arith, nat_tests)

pub keeps-none : (table : Table) → IsLevelCount table.levels → Keeps table []
keeps-none table count a b = observer_by table.levels count.0

level_step : (table : Table) (a b : ℕ) (before : Level) (c : Cert) (t : Bool) → is_of_pair a b c ≡ t → has_level table before ≡ true → has_level table c.level ≡ true → has_level table (level_after a b before c) ≡ true
level_step table a b before c true e was is = rw e is
level_step table a b before c false e was is = rw e was

keeps-cert : (table : Table) (k : List Record) (c : Cert) → Keeps table k → has_level table c.level ≡ true → Keeps table (k ++ cert c.from c.to c.level ∷ [])
keeps-cert table k c keeps has a b =
    let after : standing (k ++ cert c.from c.to c.level ∷ []) a b ≡ level_after a b (standing k a b) c =
    ap (λ cs. standing_among cs a b) (certs_of-cert k (cert c.from c.to c.level) c refl) ∙ fold-append (level_after a b) Observer (certs_of k) (c ∷ []) in
    subst (λ level. has_level table level ≡ true) (sym after) (level_step table a b (standing k a b) c (is_of_pair a b c) refl (keeps a b) has)

same_certs : (table : Table) (k next : List Record) → certs_of next ≡ certs_of k → Keeps table k → Keeps table next
same_certs table k next e keeps a b = subst (λ cs. has_level table (standing_among cs a b) ≡ true) (sym e) (keeps a b)

keeps-account : (table : Table) (k : List Record) (ws : List (List ℕ)) (x : Record) → Keeps table k → account_line k ws ≡ Ok x → Keeps table (k ++ x ∷ [])
unfolding account_line
keeps-account table k ws x keeps e =
    let name = bind-ok (new_name (accounts k) ws) _ x e in
    let is : ◌≡◌ {A = Result Record TextKind} (Ok (join name.0)) (Ok x) = name.2 in
    let same : join name.0 ≡ x = cc in
    subst (λ y. Keeps table (k ++ y ∷ [])) same (same_certs table k (k ++ join name.0 ∷ []) (certs_of-join k (join name.0) name.0 refl) keeps)

keeps-seed : (table : Table) (k : List Record) (ws : List (List ℕ)) (x : Record) → Keeps table k → seed_line k ws ≡ Ok x → Keeps table (k ++ x ∷ [])
unfolding seed_line
keeps-seed table k ws x keeps e =
    let account = bind-ok (known_account (accounts k) ws) _ x e in
    let once = bind-ok (fault_if (is_seed k account.0) Twice) _ x account.2 in
    let is : ◌≡◌ {A = Result Record TextKind} (Ok (seed account.0)) (Ok x) = once.2 in
    let same : seed account.0 ≡ x = cc in
    subst (λ y. Keeps table (k ++ y ∷ [])) same (same_certs table k (k ++ seed account.0 ∷ []) (certs_of-seed k (seed account.0) account.0 refl) keeps)

given-level : (table : Table) (names ws : List (List ℕ)) (c : Cert) → given_cert table names ws ≡ Ok c → has_level table c.level ≡ true
given-level table names ws c e =
    let three = bind-ok (three_words ws) _ c e in
    let level = bind-ok (level_in table three.0.2) _ c three.2 in
    let pair = bind-ok (pair_in names three.0.0 three.0.1) _ c level.2 in
    let given : Cert = record { from = pair.0.0; to = pair.0.1; level = level.0 } in
    let is : ◌≡◌ {A = Result Cert TextKind} (Ok given) (Ok c) = pair.2 in
    let same : given ≡ c = cc in
    subst (λ d. has_level table d.level ≡ true) same (level_in-ok table three.0.2 level.0 level.1).1

keeps-certs : (table : Table) (k : List Record) (ws : List (List ℕ)) (x : Record) → Keeps table k → cert_line table k ws ≡ Ok x → Keeps table (k ++ x ∷ [])
unfolding cert_line
keeps-certs table k ws x keeps e =
    let given = bind-ok (given_cert table (accounts k) ws) _ x e in
    let few = bind-ok (fault_unless (nat_le (standing_count (certs_of k ++ given.0 ∷ [])) MOST_CERTS) TooMany) _ x given.2 in
    let is : ◌≡◌ {A = Result Record TextKind} (Ok (cert given.0.from given.0.to given.0.level)) (Ok x) = few.2 in
    let same : cert given.0.from given.0.to given.0.level ≡ x = cc in
    subst (λ y. Keeps table (k ++ y ∷ [])) same (keeps-cert table k given.0 keeps (given-level table (accounts k) ws given.0 given.1))

keeps_by : (table : Table) (k : List Record) (word : List ℕ) (ws : List (List ℕ)) (x : Record) (account seed cert : Bool) → bytes_eq word (codes "account") ≡ account → bytes_eq word (codes "seed") ≡ seed → bytes_eq word (codes "cert") ≡ cert →
    Keeps table k → form table k (word ∷ ws) ≡ Ok x → Keeps table (k ++ x ∷ [])
unfolding form
keeps_by table k word ws x true seed cert a s c keeps e = keeps-account table k ws x keeps (rw a at e)
keeps_by table k word ws x false true cert a s c keeps e = keeps-seed table k ws x keeps (rw (a, s) at e)
keeps_by table k word ws x false false true a s c keeps e = keeps-certs table k ws x keeps (rw (a, s, c) at e)
keeps_by table k word ws x false false false a s c keeps e = let clash : Err BadLine ≡ Ok x = rw (a, s, c) at e in cc

keeps-form : (table : Table) (k : List Record) (ws : List (List ℕ)) (x : Record) → Keeps table k → form table k ws ≡ Ok x → Keeps table (k ++ x ∷ [])
unfolding form
keeps-form table k [] x keeps e = cc
keeps-form table k (word ∷ ws) x keeps e = keeps_by table k word ws x (bytes_eq word (codes "account")) (bytes_eq word (codes "seed")) (bytes_eq word (codes "cert")) refl refl refl keeps e

keeps-line : (table : Table) (k next : List Record) (line : List ℕ) → Keeps table k → site_line table k line ≡ Ok next → Keeps table next
unfolding site_line
keeps-line table k next line keeps e =
    let one = bind-ok (fault_unless (is_line line) BadLine) _ next e in
    let said = bind-ok (form table k (words line)) _ next one.2 in
    let is : ◌≡◌ {A = Result (List Record) TextKind} (Ok (k ++ said.0 ∷ [])) (Ok next) = said.2 in
    let same : k ++ said.0 ∷ [] ≡ next = cc in
    subst (Keeps table) same (keeps-form table k (words line) said.0 keeps said.1)

keeps-reading_by : (table : Table) (n : ℕ) (k all : List Record) (line : List ℕ) (others : List (List ℕ)) (r : Result (List Record) TextKind) → site_line table k line ≡ r →
    Keeps table k → reading (site_line table) n k (line ∷ others) ≡ Ok all →
    ((next : List Record) → Keeps table next → reading (site_line table) (n + 1) next others ≡ Ok all → Keeps table all) → Keeps table all
keeps-reading_by table n k all line others (Err kind) e keeps read further =
    let bad : TextFault = record { line = n; kind = kind } in
    let clash : ◌≡◌ {A = Result (List Record) TextFault} (Err bad) (Ok all) = sym (reading-bad (site_line table) n k line others kind e) ∙ read in cc
keeps-reading_by table n k all line others (Ok next) e keeps read further =
    further next (keeps-line table k next line keeps e) (sym (reading-more (site_line table) n k line others next e) ∙ read)

-- Of all lines, whatever was read before keeping to the table.
pub keeps-reading : (table : Table) (n : ℕ) (k all : List Record) (others : List (List ℕ)) → Keeps table k → reading (site_line table) n k others ≡ Ok all → Keeps table all
unfolding reading
keeps-reading table n k all [] keeps e = let same : k ≡ all = cc in subst (Keeps table) same keeps
keeps-reading table n k all (line ∷ others) keeps e =
    keeps-reading_by table n k all line others (site_line table k line) refl keeps e (λ next is read. keeps-reading table (n + 1) next all others is read)
