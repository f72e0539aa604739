-- A canonical text is read again as a proof over the same site, of the same level, flow and cut.
use Rattle.std.proofs.Common.{◌≡◌, ◌≢◌, ℕ, ◌+◌, ◌<◌, Bool, true, false, ◌&&◌, ◌||◌, not, if◌then◌else◌, List, [], ◌∷◌, ◌++◌, length, take, drop, get_or, Ok, All, IsTrue, refl, ap, ◌∙◌, arith, map, nat_lt, append_assoc, subst}
use Rattle.std.specs.Prelude.{flat_map}
use Rattle.std.specs.List.{list_any, list_all, position_or_len}
use Rattle.std.proofs.lemmas.Bool.Decides.{nat_tests}
use Rattle.std.proofs.lemmas.Simd.{map-map}
use Rattle.std.proofs.lemmas.List.{map-append}
use Rattle.std.proofs.lemmas.List.Elements.{Contains-get_or}
use Rattle.std.proofs.lemmas.List.Folds.{list_all-append}
use Rattle.std.proofs.Math.Seq.{take-append_seam, drop-append_seam}
use Rattle.trust_types.specs.declared.levels.Level.{Level}
use Rattle.trust_types.specs.declared.levels.Level.TheVariants.{Observer, Apprentice, Journeyer, Master, Fellow, Warden, Elder}
use Rattle.trust_types.specs.declared.accounts.Node.TheVariants.{Root}
use Rattle.trust_types.specs.declared.flows.Side.TheVariants.{Outside, Pass, Full}
use Rattle.trust_types.specs.declared.graphs.Cert.{Cert}
use Rattle.trust_types.specs.Levels.{IsGrade}
use Rattle.trust_types.specs.Graph.{KeepsLevels}
use Rattle.trust_types.specs.Certs.{CanStand}
use Rattle.trust_types.specs.Tables.{Table, IsTable, has_level}
use Rattle.trust_types.specs.Kept.{accounts, kept_certificates}
use Rattle.trust_types.specs.Lines.{sides_of, same_node}
use Rattle.trust_types.specs.Proven.{Lists}
use Rattle.trust_types.specs.declared.records.Record.{Record}
use Rattle.text_lines.specs.Words.{lines}
use Rattle.text_lines.specs.Reading.{reading}
use Rattle.site_lines.specs.Site.{site_line, is_levels_line, begins_with_levels}
use Rattle.text_lines.proofs.Joining.{words-join, is_line-join, goes_on-join, lines-ended, and_true, both, not_true}
use Rattle.claim_lines.specs.Claim.{Claim, is_level_line, begins_with_level, level_line, has_root}
use Rattle.site_text.specs.Site.{ProofText, begin_with_levels, head_count, site_part, claim_part, claim_of, proof_of, proof}
use Rattle.site_text.specs.View.{View}
use Rattle.audit_text.specs.Canonical.{line, account_words, seed_words, cert_words, level_words, flow_words, pass_words, full_words, site_words, claim_words, IsCanonical, IsReadAs}
use Rattle.audit_text.proofs.Spelling.{AreNames}
use Rattle.audit_text.proofs.Wording.{spaced, IsWorded, AreWorded, all_words, all-worded, account-worded, seed-worded, cert-worded, level-worded, flow-worded, pass-worded, full-worded}
use Rattle.audit_text.proofs.Recorded.{records, accounts-records, certificates-records}
use Rattle.audit_text.proofs.SiteSteps.{site_lines, reading-site}
use Rattle.audit_text.proofs.ClaimSteps.{AreWritable, claimed, claim_lines, reading-claim}
use Rattle.audit_text.proofs.Heading.{head_words, head-worded, IsHeadOf, head-read}

-- The lines of a text of such lines.
lines-words : (wss : List (List (List ℕ))) → AreWorded wss → lines (flat_map line wss) ≡ map spaced wss
unfolding lines
lines-words [] e = refl
lines-words (ws ∷ wss) e =
    let h = both (all_words ws) (list_all all_words wss) e in
    ap lines (append_assoc (spaced ws) (10 ∷ []) (flat_map line wss))
    ∙ lines-ended (spaced ws) (flat_map line wss) (goes_on-join ws h.0)
    ∙ ap (λ others. spaced ws ∷ others) (lines-words wss h.1)

-- What the law asks: each is kept by the types of the graph and the roster that are written.
pub record IsWritten (v : View) (level : Level) (r : Lists) : Type 0 where
  pub table : IsTable v.table
  pub names : AreNames v.names
  pub seeds : (a : ℕ) → IsTrue (v.graph.is_seed a) → a < length v.names
  pub keeps : KeepsLevels v.table v.graph
  pub grade : IsGrade level
  pub has : has_level v.table level ≡ true
  pub lists : AreWritable (length v.names) r
  pub root : sides_of r.pass r.full Root ≢ Outside

seeds-within : (v : View) (level : Level) (r : Lists) (text : List ℕ) → IsWritten v level r → (c : IsCanonical v level r text) → All (λ a. a < length v.names) c.seeds
seeds-within v level r text is c k d inside = is.seeds (get_or c.seeds k d) ((c.graph.seeded (get_or c.seeds k d)).1 (Contains-get_or c.seeds k d inside))

certs-kept : (v : View) (level : Level) (r : Lists) (text : List ℕ) → IsWritten v level r → (c : IsCanonical v level r text) → All (λ d. has_level v.table d.level ≡ true) c.certs
certs-kept v level r text is c k d inside =
    let one : Cert = get_or c.certs k d in
    let stands : v.graph.standing one.from one.to ≡ one.level = ((c.graph.standing one).0 (Contains-get_or c.certs k d inside)).1 in
    subst (λ (l : Level). has_level v.table l ≡ true) stands (is.keeps one.from one.to)

-- The lines of a site behind its table.
abbrev record_words : List (List ℕ) → List ℕ → List Cert → List (List (List ℕ))
record_words names seeds certs = map account_words names ++ map (seed_words names) seeds ++ map (cert_words names) certs

records-worded : (names : List (List ℕ)) (seeds : List ℕ) (certs : List Cert) → AreNames names → All (λ a. a < length names) seeds → CanStand (length names) certs → AreWorded (record_words names seeds certs)
records-worded names seeds certs are within stand =
    let of_accounts : AreWorded (map account_words names) = all-worded account_words names (λ k d inside. account-worded (get_or names k d) (are.named k d inside)) in
    let of_seeds : AreWorded (map (seed_words names) seeds) = all-worded (seed_words names) seeds (λ k d inside. seed-worded names are (get_or seeds k d) (within k d inside)) in
    let of_certs : AreWorded (map (cert_words names) certs) = all-worded (cert_words names) certs (λ k d inside. cert-worded names are (get_or certs k d) (stand.among k d inside)) in
    list_all-append all_words (map account_words names ++ map (seed_words names) seeds) (map (cert_words names) certs)
    ∙ and_true _ _ (list_all-append all_words (map account_words names) (map (seed_words names) seeds) ∙ and_true _ _ of_accounts of_seeds) of_certs

claim-worded : (names : List (List ℕ)) (level : Level) (r : Lists) → AreNames names → AreWritable (length names) r → AreWorded (claim_words names level r)
claim-worded names level r are can =
    let of_flow : AreWorded (map (flow_words names) r.flow) = all-worded (flow_words names) r.flow (λ k d inside.
    flow-worded names are (get_or r.flow k d) (can.among.givers k d inside) (can.among.takers k d inside) (can.small k d inside)) in
    let of_pass : AreWorded (map (pass_words names) r.pass) = all-worded (pass_words names) r.pass (λ k d inside. pass-worded names are (get_or r.pass k d) (can.among.pass k d inside)) in
    let of_full : AreWorded (map (full_words names) r.full) = all-worded (full_words names) r.full (λ k d inside. full-worded names are (get_or r.full k d) (can.among.full k d inside)) in
    list_all-append all_words ((level_words level ∷ map (flow_words names) r.flow) ++ map (pass_words names) r.pass) (map (full_words names) r.full)
    ∙ and_true _ _
    (list_all-append all_words (level_words level ∷ map (flow_words names) r.flow) (map (pass_words names) r.pass)
    ∙ and_true _ _ (and_true (all_words (level_words level)) (list_all all_words (map (flow_words names) r.flow)) (level-worded level) of_flow) of_pass)
    of_full

-- The level's line is the first one that is a level's, and none behind the head says how many levels there are.
abbrev is_other : List (List ℕ) → Bool
is_other ws = nat_lt 0 (length ws) && (not (begins_with_level ws) && not (begins_with_levels ws))

all_other : {X : Type 0} (words_of : X → List (List ℕ)) → ((x : X) → is_other (words_of x) ≡ true) → (xs : List X) → list_all is_other (map words_of xs) ≡ true
all_other words_of each [] = refl
all_other words_of each (x ∷ xs) = and_true (is_other (words_of x)) (list_all is_other (map words_of xs)) (each x) (all_other words_of each xs)

records-other : (names : List (List ℕ)) (seeds : List ℕ) (certs : List Cert) → list_all is_other (record_words names seeds certs) ≡ true
records-other names seeds certs =
    list_all-append is_other (map account_words names ++ map (seed_words names) seeds) (map (cert_words names) certs)
    ∙ and_true _ _
    (list_all-append is_other (map account_words names) (map (seed_words names) seeds)
    ∙ and_true _ _ (all_other account_words (λ name. refl) names) (all_other (seed_words names) (λ a. refl) seeds))
    (all_other (cert_words names) (λ c. refl) certs)

other_line : (ws : List (List ℕ)) → IsWorded ws → is_other ws ≡ true → is_level_line (spaced ws) ≡ false
other_line ws each other =
    let h = both (nat_lt 0 (length ws)) (not (begins_with_level ws) && not (begins_with_levels ws)) other in
    let plain = both (not (begins_with_level ws)) (not (begins_with_levels ws)) h.1 in
    let some : 0 < length ws = let test : nat_lt 0 (length ws) ≡ true = h.0 in grind (arith, nat_tests) in
    rw (is_line-join ws some each, words-join ws some each) (not_true (begins_with_level ws) plain.0)

no_levels_line : (ws : List (List ℕ)) → IsWorded ws → is_other ws ≡ true → is_levels_line (spaced ws) ≡ false
no_levels_line ws each other =
    let h = both (nat_lt 0 (length ws)) (not (begins_with_level ws) && not (begins_with_levels ws)) other in
    let plain = both (not (begins_with_level ws)) (not (begins_with_levels ws)) h.1 in
    let some : 0 < length ws = let test : nat_lt 0 (length ws) ≡ true = h.0 in grind (arith, nat_tests) in
    rw (is_line-join ws some each, words-join ws some each) (not_true (begins_with_levels ws) plain.1)

no-levels : (wss : List (List (List ℕ))) (first : List ℕ) (others : List (List ℕ)) → AreWorded wss → list_all is_other wss ≡ true → is_levels_line first ≡ false →
    begin_with_levels (map spaced wss ++ first ∷ others) ≡ false
no-levels [] first others worded other none = none
no-levels (ws ∷ wss) first others worded other none =
    no_levels_line ws (both (all_words ws) (list_all all_words wss) worded).0 (both (is_other ws) (list_all is_other wss) other).0

position-level : (wss : List (List (List ℕ))) (first : List ℕ) (others : List (List ℕ)) → AreWorded wss → list_all is_other wss ≡ true → is_level_line first ≡ true →
    position_or_len is_level_line (map spaced wss ++ first ∷ others) ≡ length (map spaced wss)
position-level [] first others worded other is = rw is refl
position-level (ws ∷ wss) first others worded other is =
    let w = both (all_words ws) (list_all all_words wss) worded in
    let o = both (is_other ws) (list_all is_other wss) other in
    rw (other_line ws w.0 o.0, position-level wss first others w.1 o.1 is) (omega arith)

level_line-words : (table : Table) (level : Level) → IsGrade level → has_level table level ≡ true → level_line table (spaced (level_words level)) ≡ Ok level
unfolding level_line
level_line-words table Observer grade has = absurd (grade refl)
level_line-words table Apprentice grade has = rw has refl
level_line-words table Journeyer grade has = rw has refl
level_line-words table Master grade has = rw has refl
level_line-words table Fellow grade has = rw has refl
level_line-words table Warden grade has = rw has refl
level_line-words table Elder grade has = rw has refl

is_level_line-words : (level : Level) → is_level_line (spaced (level_words level)) ≡ true
is_level_line-words Observer = refl
is_level_line-words Apprentice = refl
is_level_line-words Journeyer = refl
is_level_line-words Master = refl
is_level_line-words Fellow = refl
is_level_line-words Warden = refl
is_level_line-words Elder = refl

none_of_levels : (level : Level) → is_levels_line (spaced (level_words level)) ≡ false
none_of_levels Observer = refl
none_of_levels Apprentice = refl
none_of_levels Journeyer = refl
none_of_levels Master = refl
none_of_levels Fellow = refl
none_of_levels Warden = refl
none_of_levels Elder = refl

some_side : (passes fills : Bool) → (if passes then Pass else (if fills then Full else Outside)) ≢ Outside → (passes || fills) ≡ true
some_side true fills inside = refl
some_side false true inside = refl
some_side false false inside = absurd (inside refl)

has_root-sides : (r : Lists) → sides_of r.pass r.full Root ≢ Outside → has_root (claimed r.flow r.pass r.full) ≡ true
has_root-sides r inside = some_side (list_any (same_node Root) r.pass) (list_any (same_node Root) r.full) inside

record-lines : (names : List (List ℕ)) (seeds : List ℕ) (certs : List Cert) → map spaced (record_words names seeds certs) ≡ site_lines names seeds certs
record-lines names seeds certs =
    map-append spaced (map account_words names ++ map (seed_words names) seeds) (map (cert_words names) certs)
    ∙ ap (λ ls. ls ++ map spaced (map (cert_words names) certs)) (map-append spaced (map account_words names) (map (seed_words names) seeds))
    ∙ rw (map-map spaced account_words names, map-map spaced (seed_words names) seeds, map-map spaced (cert_words names) certs) refl

claim-lines : (names : List (List ℕ)) (level : Level) (r : Lists) → map spaced (claim_words names level r) ≡ spaced (level_words level) ∷ claim_lines names r
claim-lines names level r =
    map-append spaced ((level_words level ∷ map (flow_words names) r.flow) ++ map (pass_words names) r.pass) (map (full_words names) r.full)
    ∙ ap (λ ls. ls ++ map spaced (map (full_words names) r.full)) (map-append spaced (level_words level ∷ map (flow_words names) r.flow) (map (pass_words names) r.pass))
    ∙ rw (map-map spaced (flow_words names) r.flow, map-map spaced (pass_words names) r.pass, map-map spaced (full_words names) r.full) refl

claim_of-lines : (table : Table) (names known : List (List ℕ)) (level : Level) (r : Lists) (n : ℕ) → known ≡ names → IsGrade level → has_level table level ≡ true → AreNames names → AreWritable (length names) r → sides_of r.pass r.full Root ≢ Outside →
    claim_of table known n (spaced (level_words level) ∷ claim_lines names r) ≡ Ok (level, claimed r.flow r.pass r.full)
unfolding claim_of
claim_of-lines table names known level r n same grade has are can root =
    rw (same, level_line-words table level grade has, reading-claim names r (n + 1) are can, has_root-sides r root) refl

proof_of-parts : (table : Table) (all : List (List ℕ)) (wss : List (List (List ℕ))) (first : List ℕ) (others : List (List ℕ)) (k : List Record) (level : Level) (claim : Claim) →
    IsHeadOf table (map spaced wss ++ first ∷ others) all → AreWorded wss → list_all is_other wss ≡ true → is_level_line first ≡ true →
    ((n : ℕ) → reading (site_line table) n [] (map spaced wss) ≡ Ok k) → ((n : ℕ) → claim_of table (accounts k) n (first ∷ others) ≡ Ok (level, claim)) →
    proof_of all ≡ Ok (record { site = record { table = table; records = k }; level = level; claim = claim })
unfolding proof_of
proof_of-parts table all wss first others k level claim head worded other is read claims =
    let at : position_or_len is_level_line (map spaced wss ++ first ∷ others) ≡ length (map spaced wss) = position-level wss first others worded other is in
    let site_is : site_part (map spaced wss ++ first ∷ others) ≡ map spaced wss =
    ap (λ k. take k (map spaced wss ++ first ∷ others)) at ∙ take-append_seam (map spaced wss) (first ∷ others) in
    let claim_is : claim_part (map spaced wss ++ first ∷ others) ≡ first ∷ others =
    ap (λ k. drop k (map spaced wss ++ first ∷ others)) at ∙ drop-append_seam (map spaced wss) (first ∷ others) in
    rw (head.read, head.behind, site_is, claim_is, read (head_count all + 1), claims (head_count all + 1 + length (map spaced wss))) refl

-- The proof that a canonical text is read as.
abbrev written : Table → List (List ℕ) → List ℕ → List Cert → Level → Lists → ProofText
written table names seeds certs level r = record {
  site = record { table = table; records = records names seeds certs };
  level = level;
  claim = claimed r.flow r.pass r.full;
}

regrouped : (head accounts seeds certs claim : List (List (List ℕ))) → (((head ++ accounts) ++ seeds) ++ certs) ++ claim ≡ head ++ (((accounts ++ seeds) ++ certs) ++ claim)
regrouped head accounts seeds certs claim = simp append_assoc

site-words : (table : Table) (names : List (List ℕ)) (seeds : List ℕ) (certs : List Cert) (claim : List (List (List ℕ))) →
    site_words table names seeds certs ++ claim ≡ head_words table ++ (record_words names seeds certs ++ claim)
site-words table names seeds certs claim = regrouped (head_words table) (map account_words names) (map (seed_words names) seeds) (map (cert_words names) certs) claim

lines-canonical : (v : View) (level : Level) (r : Lists) (text : List ℕ) → IsWritten v level r → (c : IsCanonical v level r text) → AreWorded (record_words v.names c.seeds c.certs) →
    lines text ≡ map spaced (head_words v.table) ++ (map spaced (record_words v.names c.seeds c.certs) ++ spaced (level_words level) ∷ claim_lines v.names r)
lines-canonical v level r text is c worded =
    let head : List (List (List ℕ)) = head_words v.table in
    let words : List (List (List ℕ)) = record_words v.names c.seeds c.certs in
    let claim : List (List (List ℕ)) = claim_words v.names level r in
    let all : AreWorded (head ++ (words ++ claim)) =
    list_all-append all_words head (words ++ claim)
    ∙ and_true _ _ (head-worded v.table is.table) (list_all-append all_words words claim ∙ and_true _ _ worded (claim-worded v.names level r is.names is.lists)) in
    ap lines (c.written ∙ ap (flat_map line) (site-words v.table v.names c.seeds c.certs claim))
    ∙ lines-words (head ++ (words ++ claim)) all
    ∙ map-append spaced head (words ++ claim)
    ∙ ap (λ ls. map spaced head ++ ls) (map-append spaced words claim ∙ ap (λ ls. map spaced words ++ ls) (claim-lines v.names level r))

proof-canonical : (v : View) (level : Level) (r : Lists) (text : List ℕ) → IsWritten v level r → (c : IsCanonical v level r text) → proof text ≡ Ok (written v.table v.names c.seeds c.certs level r)
proof-canonical v level r text is c =
    let within : All (λ a. a < length v.names) c.seeds = seeds-within v level r text is c in
    let words : List (List (List ℕ)) = record_words v.names c.seeds c.certs in
    let worded : AreWorded words = records-worded v.names c.seeds c.certs is.names within c.stand in
    let others : list_all is_other words ≡ true = records-other v.names c.seeds c.certs in
    let first : List ℕ = spaced (level_words level) in
    let rest : List (List ℕ) = map spaced words ++ first ∷ claim_lines v.names r in
    let head : IsHeadOf v.table rest (map spaced (head_words v.table) ++ rest) =
    head-read v.table rest is.table (no-levels words first (claim_lines v.names r) worded others (none_of_levels level)) in
    let read : (n : ℕ) → reading (site_line v.table) n [] (map spaced words) ≡ Ok (records v.names c.seeds c.certs) = λ n.
    ap (reading (site_line v.table) n []) (record-lines v.names c.seeds c.certs)
    ∙ reading-site v.table n v.names c.seeds c.certs is.names within c.rises c.stand (certs-kept v level r text is c) in
    ap proof_of (lines-canonical v level r text is c worded)
    ∙ proof_of-parts v.table (map spaced (head_words v.table) ++ rest) words first (claim_lines v.names r) (records v.names c.seeds c.certs) level (claimed r.flow r.pass r.full)
    head worded others (is_level_line-words level) read
    (λ n. claim_of-lines v.table v.names (accounts (records v.names c.seeds c.certs)) level r n (accounts-records v.names c.seeds c.certs) is.grade is.has is.names is.lists is.root)

-- The law of reading back.
pub read_back : (v : View) (level : Level) (r : Lists) (text : List ℕ) → IsWritten v level r → IsCanonical v level r text → IsReadAs v level r text
read_back v level r text is c =
    let names : accounts (records v.names c.seeds c.certs) ≡ v.names = accounts-records v.names c.seeds c.certs in
    let graph : kept_certificates (records v.names c.seeds c.certs) ≡ v.graph = certificates-records v.graph v.names c.seeds c.certs c.graph in
    record {
      claimed = written v.table v.names c.seeds c.certs level r;
      read = proof-canonical v level r text is c;
      site = λ i. record { table = v.table; names = names i; graph = graph i };
      at = refl;
      flow = refl;
      pass = refl;
      full = refl;
    }
