-- Each line of a canonical text's site adds its record.
use Rattle.std.proofs.Common.{◌≡◌, ◌≢◌, ℕ, ◌<◌, ◌≤◌, true, false, List, [], ◌∷◌, ◌++◌, length, get_or, Some, None, Ok, All, refl, ap, sym, ◌∙◌, arith, nat_lt, nat_le, append_assoc, map, codes, ◌==◌}
use Rattle.std.specs.List.{list_all}
use Rattle.std.specs.List.Sorted.{IsStrictlyIncreasing}
use Rattle.std.proofs.lemmas.Bool.Decides.{nat_tests}
use Rattle.std.proofs.lemmas.List.{map-append, append-nil, length_push}
use Rattle.std.proofs.lemmas.List.Folds.{list_any_none}
use Rattle.std.proofs.lemmas.List.Kept.{AllPairs-from_increasing}
use Rattle.trust_types.specs.declared.levels.Level.{Level}
use Rattle.trust_types.specs.declared.graphs.Cert.{Cert}
use Rattle.trust_types.specs.declared.limits.TheConstants.{MOST_ACCOUNTS, MOST_CERTS}
use Rattle.trust_types.specs.declared.records.Record.{Record}
use Rattle.trust_types.specs.Levels.{level_name}
use Rattle.trust_types.specs.Tables.{Table, has_level}
use Rattle.trust_types.specs.Names.{is_name, IsName}
use Rattle.trust_types.specs.NameLists.{number_of}
use Rattle.trust_types.specs.Certs.{CanStand, IsCertAmong}
use Rattle.trust_types.specs.Changes.{standing_count}
use Rattle.trust_types.specs.Kept.{accounts, is_seed, certs_of}
use Rattle.text_lines.specs.Words.{is_word}
use Rattle.text_lines.specs.Reading.{reading}
use Rattle.text_lines.proofs.Joining.{words-join, is_line-join, reading-append, reading-each}
use Rattle.site_lines.specs.Site.{join, seed, cert, account_line, seed_line, cert_line, form, site_line}
use Rattle.trust_types.specs.NodeWords.{name_of}
use Rattle.audit_text.specs.Canonical.{account_words, seed_words, cert_words}
use Rattle.audit_text.proofs.Spelling.{AreNames, name_at, number_of-name, not_found, level_of-name}
use Rattle.audit_text.proofs.Wording.{spaced, account-worded, seed-worded, cert-worded}
use Rattle.audit_text.proofs.Placed.{IsPlaced, placed, of_all, of_pairs}
use Rattle.audit_text.proofs.Recorded.{records, cert_record, accounts-records, certs-records, is_seed-records, is_among, standing_count-le}

pub site_line-join : (table : Table) (k : List Record) (ws : List (List ℕ)) (x : Record) → 0 < length ws → list_all is_word ws ≡ true → form table k ws ≡ Ok x →
    site_line table k (spaced ws) ≡ Ok (k ++ x ∷ [])
unfolding site_line
site_line-join table k ws x some each e = rw (is_line-join ws some each, words-join ws some each, e) refl

account-form : (table : Table) (k : List Record) (name : List ℕ) → IsName name → number_of (accounts k) name ≡ None → length (accounts k) < MOST_ACCOUNTS → form table k (account_words name) ≡ Ok (join name)
unfolding form account_line
account-form table k name named new few =
    let is : is_name name ≡ true = named in
    let room : nat_lt (length (accounts k)) MOST_ACCOUNTS ≡ true = grind (arith, nat_tests) in
    rw (is, new, room) refl

records-account : (before : List (List ℕ)) (name : List ℕ) → records before [] [] ++ join name ∷ [] ≡ records (before ++ name ∷ []) [] []
records-account before name =
    let plain : (names : List (List ℕ)) → records names [] [] ≡ map join names = λ names. append-nil (map join names ++ []) ∙ append-nil (map join names) in
    ap (λ k. k ++ join name ∷ []) (plain before) ∙ sym (map-append join before (name ∷ [])) ∙ sym (plain (before ++ name ∷ []))

records-seed : (names : List (List ℕ)) (before : List ℕ) (a : ℕ) → records names before [] ++ seed a ∷ [] ≡ records names (before ++ a ∷ []) []
records-seed names before a =
    ap (λ k. k ++ seed a ∷ []) (append-nil (map join names ++ map seed before))
    ∙ append_assoc (map join names) (map seed before) (seed a ∷ [])
    ∙ ap (λ k. map join names ++ k) (sym (map-append seed before (a ∷ [])))
    ∙ sym (append-nil (map join names ++ map seed (before ++ a ∷ [])))

records-cert : (names : List (List ℕ)) (seeds : List ℕ) (before : List Cert) (c : Cert) → records names seeds before ++ cert_record c ∷ [] ≡ records names seeds (before ++ c ∷ [])
records-cert names seeds before c =
    append_assoc (map join names ++ map seed seeds) (map cert_record before) (cert_record c ∷ [])
    ∙ ap (λ k. (map join names ++ map seed seeds) ++ k) (sym (map-append cert_record before (c ∷ [])))

account-step : (table : Table) (names before : List (List ℕ)) (name : List ℕ) (rest : List (List ℕ)) → AreNames names → before ++ name ∷ rest ≡ names →
    site_line table (records before [] []) (spaced (account_words name)) ≡ Ok (records (before ++ name ∷ []) [] [])
account-step table names before name rest are e =
    let at : IsPlaced before name names = placed before name rest names e in
    let named : IsName name = of_all IsName before name names at are.named in
    let known : accounts (records before [] []) ≡ before = accounts-records before [] [] in
    let new : number_of (accounts (records before [] [])) name ≡ None =
    ap (λ ns. number_of ns name) known ∙ not_found before name (of_pairs (λ a b. a ≢ b) before name names at are.apart) in
    let few : length (accounts (records before [] [])) < MOST_ACCOUNTS = rw known (omega (arith, are.few, at.within)) in
    site_line-join table (records before [] []) (account_words name) (join name) (omega arith) (account-worded name named) (account-form table (records before [] []) name named new few)
    ∙ ap Ok (records-account before name)

seed-form : (table : Table) (k : List Record) (name : List ℕ) (a : ℕ) → IsName name → number_of (accounts k) name ≡ Some a → is_seed k a ≡ false → form table k (codes "seed" ∷ name ∷ []) ≡ Ok (seed a)
unfolding form seed_line
seed-form table k name a named found new =
    let is : is_name name ≡ true = named in
    rw (is, found, new) refl

apart_from : (seeds : List ℕ) (a : ℕ) → All (λ b. b < a) seeds → is_among a seeds ≡ false
apart_from seeds a less = list_any_none (λ b. a == b) seeds (λ k d below. let lt : get_or seeds k d < a = less k d below in grind (arith, nat_tests))

seed-step : (table : Table) (names : List (List ℕ)) (seeds before : List ℕ) (a : ℕ) (rest : List ℕ) → AreNames names → All (λ b. b < length names) seeds → IsStrictlyIncreasing seeds →
    before ++ a ∷ rest ≡ seeds → site_line table (records names before []) (spaced (seed_words names a)) ≡ Ok (records names (before ++ a ∷ []) [])
seed-step table names seeds before a rest are within rises e =
    let at : IsPlaced before a seeds = placed before a rest seeds e in
    let below : a < length names = of_all (λ b. b < length names) before a seeds at within in
    let named : IsName (name_of names a) = name_at names are a below in
    let found : number_of (accounts (records names before [])) (name_of names a) ≡ Some a =
    ap (λ ns. number_of ns (name_of names a)) (accounts-records names before []) ∙ number_of-name names are a below in
    let new : is_seed (records names before []) a ≡ false =
    is_seed-records names before [] a ∙ apart_from before a (of_pairs (λ x y. x < y) before a seeds at (AllPairs-from_increasing seeds rises)) in
    site_line-join table (records names before []) (seed_words names a) (seed a) (omega arith) (seed-worded names are a below) (seed-form table (records names before []) (name_of names a) a named found new)
    ∙ ap Ok (records-seed names before a)

cert-form : (table : Table) (k : List Record) (giver taker : List ℕ) (a b : ℕ) (level : Level) → IsName giver → IsName taker → number_of (accounts k) giver ≡ Some a → number_of (accounts k) taker ≡ Some b →
    a ≢ b → has_level table level ≡ true → standing_count (certs_of k ++ record { from = a; to = b; level = level } ∷ []) ≤ MOST_CERTS → form table k (codes "cert" ∷ giver ∷ taker ∷ level_name level ∷ []) ≡ Ok (cert a b level)
unfolding form cert_line
cert-form table k giver taker a b level named_giver named_taker found_giver found_taker others has few =
    let is_giver : is_name giver ≡ true = named_giver in
    let is_taker : is_name taker ≡ true = named_taker in
    let apart : (a == b) ≡ false = grind (arith, nat_tests, others) in
    let room : nat_le (standing_count (certs_of k ++ record { from = a; to = b; level = level } ∷ [])) MOST_CERTS ≡ true = grind (arith, nat_tests) in
    rw (level_of-name level, has, is_giver, is_taker, found_giver, found_taker, apart, room) refl

cert-step : (table : Table) (names : List (List ℕ)) (seeds : List ℕ) (certs before : List Cert) (c : Cert) (rest : List Cert) → AreNames names → CanStand (length names) certs →
    All (λ d. has_level table d.level ≡ true) certs → before ++ c ∷ rest ≡ certs → site_line table (records names seeds before) (spaced (cert_words names c)) ≡ Ok (records names seeds (before ++ c ∷ []))
cert-step table names seeds certs before c rest are stand kept e =
    let at : IsPlaced before c certs = placed before c rest certs e in
    let among : IsCertAmong (length names) c = of_all (IsCertAmong (length names)) before c certs at stand.among in
    let has : has_level table c.level ≡ true = of_all (λ d. has_level table d.level ≡ true) before c certs at kept in
    let named_giver : IsName (name_of names c.from) = name_at names are c.from among.giver in
    let named_taker : IsName (name_of names c.to) = name_at names are c.to among.taker in
    let found_giver : number_of (accounts (records names seeds before)) (name_of names c.from) ≡ Some c.from =
    ap (λ ns. number_of ns (name_of names c.from)) (accounts-records names seeds before) ∙ number_of-name names are c.from among.giver in
    let found_taker : number_of (accounts (records names seeds before)) (name_of names c.to) ≡ Some c.to =
    ap (λ ns. number_of ns (name_of names c.to)) (accounts-records names seeds before) ∙ number_of-name names are c.to among.taker in
    let all : certs_of (records names seeds before) ++ c ∷ [] ≡ before ++ c ∷ [] = ap (λ (certs : List Cert). certs ++ c ∷ []) (certs-records names seeds before) in
    let few : standing_count (certs_of (records names seeds before) ++ c ∷ []) ≤ MOST_CERTS =
    rw all (omega (arith, standing_count-le (before ++ c ∷ []), length_push before c, at.within, stand.few)) in
    site_line-join table (records names seeds before) (cert_words names c) (cert_record c) (omega arith) (cert-worded names are c among)
    (cert-form table (records names seeds before) (name_of names c.from) (name_of names c.to) c.from c.to c.level named_giver named_taker found_giver found_taker among.others has few)
    ∙ ap Ok (records-cert names seeds before c)

-- The lines of a site behind those of its table.
abbrev pub site_lines : List (List ℕ) → List ℕ → List Cert → List (List ℕ)
site_lines names seeds certs =
    map (λ name. spaced (account_words name)) names ++ map (λ a. spaced (seed_words names a)) seeds ++ map (λ c. spaced (cert_words names c)) certs

-- They are read as its records.
pub reading-site : (table : Table) (n : ℕ) (names : List (List ℕ)) (seeds : List ℕ) (certs : List Cert) → AreNames names → All (λ a. a < length names) seeds → IsStrictlyIncreasing seeds →
    CanStand (length names) certs → All (λ d. has_level table d.level ≡ true) certs → reading (site_line table) n [] (site_lines names seeds certs) ≡ Ok (records names seeds certs)
reading-site table n names seeds certs are within rises stand kept =
    let accounts_are : reading (site_line table) n [] (map (λ name. spaced (account_words name)) names) ≡ Ok (records names [] []) =
    reading-each (site_line table) n (λ name. spaced (account_words name)) (λ before. records before [] []) names (λ before name rest e. account-step table names before name rest are e) in
    let seeds_are : (m : ℕ) → reading (site_line table) m (records names [] []) (map (λ a. spaced (seed_words names a)) seeds) ≡ Ok (records names seeds []) = λ m.
    reading-each (site_line table) m (λ a. spaced (seed_words names a)) (λ before. records names before []) seeds
    (λ before a rest e. seed-step table names seeds before a rest are within rises e) in
    let certs_are : (m : ℕ) → reading (site_line table) m (records names seeds []) (map (λ c. spaced (cert_words names c)) certs) ≡ Ok (records names seeds certs) = λ m.
    reading-each (site_line table) m (λ c. spaced (cert_words names c)) (λ before. records names seeds before) certs
    (λ before c rest e. cert-step table names seeds certs before c rest are stand kept e) in
    let front : reading (site_line table) n [] (map (λ name. spaced (account_words name)) names ++ map (λ a. spaced (seed_words names a)) seeds) ≡ Ok (records names seeds []) =
    reading-append (site_line table) n [] (records names [] []) (map (λ name. spaced (account_words name)) names) (map (λ a. spaced (seed_words names a)) seeds) accounts_are
    ∙ seeds_are _ in
    reading-append (site_line table) n [] (records names seeds []) (map (λ name. spaced (account_words name)) names ++ map (λ a. spaced (seed_words names a)) seeds)
    (map (λ c. spaced (cert_words names c)) certs) front
    ∙ certs_are _
