-- Each line of a canonical text is made of words.
use Rattle.std.proofs.Common.{◌≡◌, ℕ, ◌<◌, ◌≤◌, ◌^◌, Bool, true, List, [], ◌∷◌, length, get_or, All, refl, arith, map, decimal}
use Rattle.std.specs.List.{list_all, join_with_byte}
use Rattle.std.proofs.lemmas.Grind.{get_or_default_zero}
use Rattle.std.proofs.lemmas.List.Elements.{All-head, All-tail}
use Rattle.trust_types.specs.declared.levels.Level.{Level}
use Rattle.trust_types.specs.declared.accounts.Node.{Node}
use Rattle.trust_types.specs.declared.flows.FlowLine.{FlowLine}
use Rattle.trust_types.specs.declared.graphs.Cert.{Cert}
use Rattle.trust_types.specs.Names.{IsName}
use Rattle.trust_types.specs.Tables.{AreEntries, IsLevelCount}
use Rattle.trust_types.specs.Lines.{place}
use Rattle.trust_types.specs.Certs.{IsCertAmong}
use Rattle.text_lines.specs.Words.{is_word}
use Rattle.text_lines.proofs.Decimals.{is_word-decimal}
use Rattle.text_lines.proofs.Joining.{and_true}
use Rattle.trust_types.specs.NodeWords.{name_of, node_name}
use Rattle.audit_text.specs.Canonical.{account_words, seed_words, cert_words, level_words, flow_words, pass_words, full_words}
use Rattle.audit_text.specs.inner.Writing.{entries_words, count_words}
use Rattle.text_lines.proofs.Spelled.{is_word-name, is_word-level}
use Rattle.audit_text.proofs.Spelling.{AreNames, name_at, node_word}

-- Words with a space between each two.
abbrev pub spaced : List (List ℕ) → List ℕ
spaced ws = join_with_byte 32 ws

abbrev pub IsWorded : List (List ℕ) → Type 0
IsWorded ws = list_all is_word ws ≡ true

abbrev pub all_words : List (List ℕ) → Bool
all_words ws = list_all is_word ws

abbrev pub AreWorded : List (List (List ℕ)) → Type 0
AreWorded wss = list_all all_words wss ≡ true

-- A number that a word can write.
abbrev pub IsSmall : ℕ → Type 0
IsSmall n = n < 2 ^ 32

pub small-AreEntries : (entries : List ℕ) → AreEntries entries → All IsSmall entries
small-AreEntries entries is k d inside =
    let same : get_or entries k d ≡ get_or entries k 0 = get_or_default_zero entries k d inside in
    omega (arith, is.most k inside)

decimals-worded : (entries : List ℕ) → All IsSmall entries → list_all is_word (map decimal entries) ≡ true
decimals-worded [] small = refl
decimals-worded (n ∷ entries) small =
    let first : n < 2 ^ 32 = All-head IsSmall n entries small in
    and_true (is_word (decimal n)) (list_all is_word (map decimal entries)) (is_word-decimal n (omega arith)) (decimals-worded entries (All-tail IsSmall n entries small))

pub entries-worded : (entries : List ℕ) → AreEntries entries → IsWorded (entries_words entries)
entries-worded entries is = decimals-worded entries (small-AreEntries entries is)

pub count-worded : (levels : ℕ) → IsLevelCount levels → IsWorded (count_words levels)
count-worded levels is = let word : is_word (decimal levels) ≡ true = is_word-decimal levels (omega (arith, is.1)) in rw word refl

pub account-worded : (name : List ℕ) → IsName name → IsWorded (account_words name)
account-worded name named = let word : is_word name ≡ true = is_word-name name named in rw word refl

pub seed-worded : (names : List (List ℕ)) → AreNames names → (a : ℕ) → a < length names → IsWorded (seed_words names a)
seed-worded names are a below = account-worded (name_of names a) (name_at names are a below)

pub cert-worded : (names : List (List ℕ)) → AreNames names → (c : Cert) → IsCertAmong (length names) c → IsWorded (cert_words names c)
cert-worded names are c among =
    let giver : is_word (name_of names c.from) ≡ true = is_word-name (name_of names c.from) (name_at names are c.from among.giver) in
    let taker : is_word (name_of names c.to) ≡ true = is_word-name (name_of names c.to) (name_at names are c.to among.taker) in
    rw (giver, taker, is_word-level c.level) refl

pub level-worded : (level : Level) → IsWorded (level_words level)
level-worded level = rw (is_word-level level) refl

pub flow-worded : (names : List (List ℕ)) → AreNames names → (l : FlowLine) → place l.from ≤ length names → l.to < length names → l.units < 2 ^ 32 → IsWorded (flow_words names l)
flow-worded names are l among below small =
    let giver : is_word (node_name names l.from) ≡ true = node_word names are l.from among in
    let taker : is_word (name_of names l.to) ≡ true = is_word-name (name_of names l.to) (name_at names are l.to below) in
    let units : is_word (decimal l.units) ≡ true = is_word-decimal l.units (omega arith) in
    rw (giver, taker, units) refl

pub pass-worded : (names : List (List ℕ)) → AreNames names → (x : Node) → place x ≤ length names → IsWorded (pass_words names x)
pass-worded names are x among = let word : is_word (node_name names x) ≡ true = node_word names are x among in rw word refl

pub full-worded : (names : List (List ℕ)) → AreNames names → (x : Node) → place x ≤ length names → IsWorded (full_words names x)
full-worded names are x among = pass-worded names are x among

pub all-worded : {X : Type 0} (words_of : X → List (List ℕ)) (xs : List X) → All (λ x. IsWorded (words_of x)) xs → AreWorded (map words_of xs)
all-worded words_of [] each = refl
all-worded words_of (x ∷ xs) each =
    and_true (all_words (words_of x)) (list_all all_words (map words_of xs)) (All-head (λ x. IsWorded (words_of x)) x xs each)
    (all-worded words_of xs (All-tail (λ x. IsWorded (words_of x)) x xs each))
