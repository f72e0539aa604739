-- What is written in a word is a word, and is read again as it was.
use Rattle.std.proofs.Common.{◌≡◌, ◌≢◌, ℕ, ◌<◌, ◌≤◌, ◌^◌, Bool, true, false, if◌then◌else◌, ◌==◌, cond, List, [], length, get_or, Some, None, All, refl, arith, nat_lt, decimal, codes, subst}
use Rattle.std.specs.List.{position_or_len}
use Rattle.std.specs.Str.{bytes_eq}
use Rattle.std.proofs.lemmas.Bool.{false≢true}
use Rattle.std.proofs.lemmas.List.Sums.{position_or_len_is}
use Rattle.std.proofs.lemmas.Slice.Eq.{bytes_eq-Decides}
use Rattle.trust_types.specs.declared.limits.TheConstants.{MOST_ACCOUNTS}
use Rattle.trust_types.specs.declared.levels.Level.{Level}
use Rattle.trust_types.specs.declared.levels.Level.TheVariants.{Observer, Apprentice, Journeyer, Master, Fellow, Warden, Elder}
use Rattle.trust_types.specs.declared.accounts.Node.{Node}
use Rattle.trust_types.specs.declared.accounts.Node.TheVariants.{Root, Account}
use Rattle.trust_types.specs.Levels.{level_name, level_of}
use Rattle.trust_types.specs.Names.{is_name, IsName}
use Rattle.trust_types.specs.NameLists.{number_of, AreApart}
use Rattle.trust_types.specs.Lines.{place}
use Rattle.text_lines.specs.Words.{is_word}
use Rattle.text_lines.proofs.Decimals.{number-decimal}
use Rattle.text_lines.proofs.Spelled.{is_word-name}
use Rattle.claim_lines.specs.Claim.{units_of}
use Rattle.trust_types.specs.NodeWords.{is_dash, is_node, node_of}
use Rattle.trust_types.specs.NodeWords.{name_of, node_name}

pub level_of-name : (level : Level) → level_of (level_name level) ≡ Some level
level_of-name Observer = refl
level_of-name Apprentice = refl
level_of-name Journeyer = refl
level_of-name Master = refl
level_of-name Fellow = refl
level_of-name Warden = refl
level_of-name Elder = refl

unequal : (a b : List ℕ) (t : Bool) → bytes_eq a b ≡ t → a ≢ b → bytes_eq a b ≡ false
unequal a b true e apart = absurd (apart ((bytes_eq-Decides a b).0 e))
unequal a b false e apart = e

pub is_dash-name : (word : List ℕ) → IsName word → is_dash word ≡ false
is_dash-name word named = unequal word (codes "-") (is_dash word) refl (λ same. false≢true (subst IsName same named))

-- Names that differ: each is an account's, and is found by the account's name.
pub record AreNames (names : List (List ℕ)) : Type 0 where
  pub named : All IsName names
  pub apart : AreApart names
  pub few : length names ≤ MOST_ACCOUNTS

pub name_at : (names : List (List ℕ)) → AreNames names → (a : ℕ) → a < length names → IsName (name_of names a)
name_at names are a below = are.named a [] below

found_by : (p l a : ℕ) → p ≡ a → a < l → cond (nat_lt p l) (Some p) None ≡ Some a
found_by p l a e below = grind arith

pub number_of-name : (names : List (List ℕ)) → AreNames names → (a : ℕ) → a < length names → number_of names (name_of names a) ≡ Some a
number_of-name names are a below =
    let at : position_or_len (λ other. bytes_eq other (name_of names a)) names ≡ a =
    position_or_len_is (λ other. bytes_eq other (name_of names a)) names a [] (omega arith)
    (λ k before. unequal (get_or names k []) (get_or names a []) (bytes_eq (get_or names k []) (get_or names a [])) refl (are.apart k a [] before below))
    (λ _. (bytes_eq-Decides (name_of names a) (name_of names a)).1 refl) in
    found_by _ (length names) a at below

none_by : (p l : ℕ) → p ≡ l → cond (nat_lt p l) (Some p) None ≡ None
none_by p l e = grind arith

pub not_found : (names : List (List ℕ)) (name : List ℕ) → All (λ other. other ≢ name) names → number_of names name ≡ None
not_found names name differ =
    none_by _ (length names) (position_or_len_is (λ other. bytes_eq other name) names (length names) [] (omega arith)
    (λ k before. unequal (get_or names k []) name (bytes_eq (get_or names k []) name) refl (differ k [] before)) (λ less. absurd (omega arith)))

-- Nodes among the accounts.
pub node_word : (names : List (List ℕ)) → AreNames names → (x : Node) → place x ≤ length names → is_word (node_name names x) ≡ true
node_word names are Root among = refl
node_word names are (Account a) among = is_word-name (name_of names a) (name_at names are a (omega arith))

pub is_node-name : (names : List (List ℕ)) → AreNames names → (x : Node) → place x ≤ length names → is_node (node_name names x) ≡ true
is_node-name names are Root among = refl
is_node-name names are (Account a) among =
    let named : is_name (name_of names a) ≡ true = name_at names are a (omega arith) in
    rw (is_dash-name (name_of names a) (name_at names are a (omega arith)), named) refl

pub node_of-name : (names : List (List ℕ)) → AreNames names → (x : Node) → place x ≤ length names → node_of names (node_name names x) ≡ Some x
node_of-name names are Root among = refl
node_of-name names are (Account a) among =
    rw (is_dash-name (name_of names a) (name_at names are a (omega arith)), number_of-name names are a (omega arith)) refl

not_zero : (n : ℕ) → 0 < n → (if n == 0 then None else Some n) ≡ Some n
not_zero n some = grind arith

pub units_of-decimal : (n : ℕ) → n < 2 ^ 32 → 0 < n → units_of (decimal n) ≡ Some n
units_of-decimal n small some = rw (units_of, number-decimal n small) (not_zero n some)
