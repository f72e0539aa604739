-- How many bytes the canonical text of a proof has at most.
use Rattle.std.proofs.Common.{ℕ, suc, Bool, true, false, if◌then◌else◌, ◌==◌, ◌≡◌, ◌<◌, ◌≤◌, ◌+◌, ◌*◌, ◌^◌, List, [], ◌∷◌, ◌++◌, length, get_or, map, All, codes, decimal, sym, subst, ◌∙◌, ap, arith, inl, inr}
use Rattle.std.specs.List.{flat_map, join_with_byte, sum_by}
use Rattle.std.proofs.lemmas.Bool.{cases_lt}
use Rattle.std.proofs.lemmas.Bool.Decides.{nat_tests}
use Rattle.std.proofs.lemmas.Fmt.{length-decimal-le}
use Rattle.std.proofs.lemmas.Grind.{get_or_default_zero}
use Rattle.std.proofs.lemmas.List.{length-map, length-append, get_or_past}
use Rattle.std.proofs.lemmas.List.Concat.{flat_map-append, length-flat_map}
use Rattle.std.proofs.lemmas.List.Elements.{All-map}
use Rattle.std.proofs.lemmas.List.Sums.{sum_by-le}
use Rattle.trust_types.specs.declared.levels.Level.{Level}
use Rattle.trust_types.specs.declared.levels.Level.TheVariants.{Observer, Apprentice, Journeyer, Master, Fellow, Warden, Elder}
use Rattle.trust_types.specs.declared.accounts.Node.{Node}
use Rattle.trust_types.specs.declared.accounts.Node.TheVariants.{Root, Account}
use Rattle.trust_types.specs.declared.graphs.Cert.{Cert}
use Rattle.trust_types.specs.declared.flows.FlowLine.{FlowLine}
use Rattle.trust_types.specs.Levels.{level_name}
use Rattle.trust_types.specs.Names.{IsName}
use Rattle.trust_types.specs.NodeWords.{name_of, node_name}
use Rattle.trust_types.specs.Proven.{Lists}
use Rattle.trust_types.specs.Tables.{Table, IsTable}
use Rattle.audit_text.specs.Canonical.{line, caps_words, levels_words, account_words, seed_words, cert_words, level_words, flow_words, pass_words, full_words, site_words, claim_words}

-- The bytes of words, each with one more.
worded : List (List ℕ) → ℕ
worded [] = 0
worded (word ∷ words) = length word + 1 + worded words

length-line : (word : List ℕ) (words : List (List ℕ)) → length (line (word ∷ words)) ≡ length word + 1 + worded words
unfolding worded
length-line word [] = omega (arith, length-append word (10 ∷ []))
length-line word (next ∷ words) =
    let rest : List ℕ = join_with_byte 32 (next ∷ words) in
    omega (arith, length-append (word ++ 32 ∷ rest) (10 ∷ []), length-append word (32 ∷ rest), length-append rest (10 ∷ []), length-line next words)

-- The bytes of lines.
abbrev pub size : List (List (List ℕ)) → ℕ
size lines = length (flat_map line lines)

pub size-append : (xs ys : List (List (List ℕ))) → size (xs ++ ys) ≡ size xs + size ys
size-append xs ys = ap length (flat_map-append line xs ys) ∙ length-append (flat_map line xs) (flat_map line ys)

size-map : {X : Type 0} (words_of : X → List (List ℕ)) (most : ℕ) (xs : List X) → All (λ x. length (line (words_of x)) ≤ most) xs →
    size (map words_of xs) ≤ length xs * most
size-map words_of most xs each =
    let bound : sum_by (λ words. length (line words)) (map words_of xs) ≤ length (map words_of xs) * most =
    sum_by-le (λ words. length (line words)) most (map words_of xs) (All-map (λ words. length (line words) ≤ most) words_of xs each) in
    subst (λ n. size (map words_of xs) ≤ n * most) (length-map xs words_of)
    (subst (λ n. n ≤ length (map words_of xs) * most) (sym (length-flat_map line (map words_of xs))) bound)

name_short : (name : List ℕ) → IsName name → length name ≤ 20
name_short name named = grind (arith, nat_tests, named)

named_short : (names : List (List ℕ)) → All IsName names → (a : ℕ) → length (name_of names a) ≤ 20
named_short names named a = elim (cases_lt a (length names)) [
  | inl below ↦ name_short (name_of names a) (named a [] below)
  | inr past ↦ let none : name_of names a ≡ [] = get_or_past names a [] (omega arith) in omega (arith, ap length none)
]

node_short : (names : List (List ℕ)) → All IsName names → (x : Node) → length (node_name names x) ≤ 20
node_short names named Root = omega arith
node_short names named (Account a) = named_short names named a

level_short : (level : Level) → length (level_name level) ≤ 10
level_short Observer = omega arith
level_short Apprentice = omega arith
level_short Journeyer = omega arith
level_short Master = omega arith
level_short Fellow = omega arith
level_short Warden = omega arith
level_short Elder = omega arith

unit_short : (units : ℕ) → units < 2 ^ 32 → length (decimal units) ≤ 10
unit_short units small = length-decimal-le 10 units (omega arith) (omega arith) (omega arith)

two_words : (first second : List ℕ) → length (line (first ∷ second ∷ [])) ≡ length first + length second + 2
unfolding worded
two_words first second = omega (arith, length-line first (second ∷ []))

four_words : (a b c d : List ℕ) → length (line (a ∷ b ∷ c ∷ d ∷ [])) ≡ length a + length b + length c + length d + 4
unfolding worded
four_words a b c d = omega (arith, length-line a (b ∷ c ∷ d ∷ []))

worded_decimals : (entries : List ℕ) → All (λ entry. entry < 2 ^ 32) entries → worded (map decimal entries) ≤ length entries * 11
unfolding worded
worded_decimals [] small = omega arith
worded_decimals (n ∷ entries) small = omega (
  arith,
  unit_short n (small 0 n (omega arith)),
  worded_decimals entries (λ k d inside. small (suc k) d (omega arith)),
)

caps_short : (table : Table) → IsTable table → length (line (caps_words table)) ≤ 181
caps_short table is =
    let small : All (λ entry. entry < 2 ^ 32) table.entries = λ k d inside.
    let most : get_or table.entries k 0 ≤ 2000 = is.entries.most k inside in
    let same : get_or table.entries k d ≡ get_or table.entries k 0 = get_or_default_zero table.entries k d inside in
    omega arith in
    omega (arith, length-line (codes "caps") (map decimal table.entries), worded_decimals table.entries small, is.entries.few)

count_short : (levels : ℕ) (four : Bool) → levels < 2 ^ 32 → size (if four then [] else (codes "levels" ∷ decimal levels ∷ []) ∷ []) ≤ 18
count_short levels true few = omega arith
count_short levels false few =
    let words : List (List ℕ) = codes "levels" ∷ decimal levels ∷ [] in
    omega (arith, length-append (line words) [], two_words (codes "levels") (decimal levels), unit_short levels few)

levels_short : (table : Table) → IsTable table → size (levels_words table) ≤ 18
levels_short table is = count_short table.levels (table.levels == 4) (omega (arith, is.levels.1))

-- The lines of a site's text, by how many there are.
pub site_short : (table : Table) (names : List (List ℕ)) (seeds : List ℕ) (certs : List Cert) → IsTable table → All IsName names →
    size (site_words table names seeds certs) ≤ 199 + length names * 29 + length seeds * 26 + length certs * 58
site_short table names seeds certs is named =
    let accounts : size (map account_words names) ≤ length names * 29 = size-map account_words 29 names (λ k d inside.
    omega (arith, two_words (codes "account") (get_or names k d), name_short (get_or names k d) (named k d inside))) in
    let seeded : size (map (seed_words names) seeds) ≤ length seeds * 26 = size-map (seed_words names) 26 seeds (λ k d inside.
    omega (arith, two_words (codes "seed") (name_of names (get_or seeds k d)), named_short names named (get_or seeds k d))) in
    let given : size (map (cert_words names) certs) ≤ length certs * 58 = size-map (cert_words names) 58 certs (λ k d inside.
    let c : Cert = get_or certs k d in
    omega (arith, four_words (codes "cert") (name_of names c.from) (name_of names c.to) (level_name c.level), named_short names named c.from, named_short names named c.to, level_short c.level)) in
    omega (
      arith,
      accounts,
      seeded,
      given,
      caps_short table is,
      levels_short table is,
      length-append (line (caps_words table)) (flat_map line (levels_words table)),
      size-append (((caps_words table ∷ levels_words table) ++ map account_words names) ++ map (seed_words names) seeds) (map (cert_words names) certs),
      size-append ((caps_words table ∷ levels_words table) ++ map account_words names) (map (seed_words names) seeds),
      size-append (caps_words table ∷ levels_words table) (map account_words names),
    )

-- The lines of what is claimed of it.
pub claim_short : (names : List (List ℕ)) (level : Level) (r : Lists) → All IsName names → All (λ l. l.units < 2 ^ 32) r.flow →
    size (claim_words names level r) ≤ 17 + length r.flow * 58 + length r.pass * 26 + length r.full * 26
claim_short names level r named small =
    let flow : size (map (flow_words names) r.flow) ≤ length r.flow * 58 = size-map (flow_words names) 58 r.flow (λ k d inside.
    let l : FlowLine = get_or r.flow k d in
    omega (arith, four_words (codes "flow") (node_name names l.from) (name_of names l.to) (decimal l.units), node_short names named l.from, named_short names named l.to, unit_short l.units (small k d inside))) in
    let pass : size (map (pass_words names) r.pass) ≤ length r.pass * 26 = size-map (pass_words names) 26 r.pass (λ k d inside.
    omega (arith, two_words (codes "pass") (node_name names (get_or r.pass k d)), node_short names named (get_or r.pass k d))) in
    let full : size (map (full_words names) r.full) ≤ length r.full * 26 = size-map (full_words names) 26 r.full (λ k d inside.
    omega (arith, two_words (codes "full") (node_name names (get_or r.full k d)), node_short names named (get_or r.full k d))) in
    omega (
      arith,
      flow,
      pass,
      full,
      two_words (codes "level") (level_name level),
      level_short level,
      length-append (line (level_words level)) (flat_map line (map (flow_words names) r.flow)),
      size-append ((level_words level ∷ map (flow_words names) r.flow) ++ map (pass_words names) r.pass) (map (full_words names) r.full),
      size-append (level_words level ∷ map (flow_words names) r.flow) (map (pass_words names) r.pass),
    )
