-- What the lines of a site stand for: its capacity table, and kept records without moments and secrets.
use Rattle.std.specs.Prelude.{ℕ, Bool, false, List, [], ◌∷◌, ◌++◌, ◌&&◌, Result, Ok, Err, ◌==◌, nat_le, nat_lt, length, codes, if◌then◌else◌, is_some}
use Rattle.std.specs.Option.{ok_or}
use Rattle.std.specs.Str.{bytes_eq}
use Rattle.trust_types.specs.declared.levels.Level.{Level}
use Rattle.trust_types.specs.declared.graphs.Cert.{Cert as Certificate}
use Rattle.trust_types.specs.declared.limits.TheConstants.{MOST_ACCOUNTS, MOST_CERTS}
use Rattle.trust_types.specs.declared.records.Record.{Record}
use Rattle.trust_types.specs.declared.records.Record.TheVariants.{Join, Seed, Cert}
use Rattle.trust_types.specs.declared.records.Secret.TheVariants.{Absent}
use Rattle.trust_types.specs.NameLists.{number_of}
use Rattle.trust_types.specs.Tables.{Table, judged_entries, standard_entries}
use Rattle.trust_types.specs.Changes.{standing_count}
use Rattle.trust_types.specs.Kept.{accounts, is_seed, certs_of}
use Rattle.text_lines.specs.declared.faults.TextKind.{TextKind}
use Rattle.text_lines.specs.declared.faults.TextKind.TheVariants.{BadLine, BadNumber, BadCount, Unknown, SelfCert, Twice, TooMany}
use Rattle.text_lines.specs.Faults.{kind_of_table}
use Rattle.text_lines.specs.Words.{words, is_line}
use Rattle.text_lines.specs.Numbers.{number}
use Rattle.text_lines.specs.Steps.{◌>>=◌, fault_if, fault_unless}
use Rattle.text_lines.specs.Places.{one_word, three_words, name_in, level_in}

-- The numbers that all of the words write.
abbrev pub numbers : List (List ℕ) → Result (List ℕ) TextKind
numbers [] = Ok []
numbers (word ∷ others) = do
  n ← ok_or (number word) BadNumber
  ns ← numbers others
  Ok (n ∷ ns)

-- A fault of a table's entries as that of a line.
abbrev pub judged : List ℕ → Result (List ℕ) TextKind
judged entries = elim (judged_entries entries) [ Ok entries ↦ Ok entries | Err fault ↦ Err (kind_of_table fault) ]

-- The entries that the words behind `caps` write; `default` alone are those that a site has unless it is told others.
abbrev pub entries_in : List (List ℕ) → Result (List ℕ) TextKind
entries_in (word ∷ []) = if bytes_eq word (codes "default") then Ok standard_entries else numbers (word ∷ []) >>= judged
entries_in words = numbers words >>= judged

abbrev pub caps_form : List (List ℕ) → Result (List ℕ) TextKind
caps_form [] = Err BadLine
caps_form (word ∷ words) = if bytes_eq word (codes "caps") then entries_in words else Err BadLine

-- `caps default`, or `caps` and the entries of a table: a site's first line.
unfoldable pub caps_line : List ℕ → Result (List ℕ) TextKind
caps_line line = if is_line line then caps_form (words line) else Err BadLine

-- The number of levels that a word writes.
abbrev pub count_of : List ℕ → Result ℕ TextKind
count_of word = do
  count ← ok_or (number word) BadNumber
  _ ← fault_unless (nat_le 2 count && nat_le count 7) BadCount
  Ok count

abbrev pub begins_with_levels : List (List ℕ) → Bool
begins_with_levels [] = false
begins_with_levels (word ∷ words) = bytes_eq word (codes "levels")

-- A line whose first word is `levels`.
abbrev pub is_levels_line : List ℕ → Bool
is_levels_line line = is_line line && begins_with_levels (words line)

-- The number of levels of such a line.
abbrev pub levels_form : List (List ℕ) → Result ℕ TextKind
levels_form [] = Err BadLine
levels_form (word ∷ words) = one_word words >>= count_of

-- `levels NUMBER`: how many levels a site has, on its second line, where that begins so.
unfoldable pub levels_line : List ℕ → Result ℕ TextKind
levels_line line = do
  _ ← fault_unless (is_levels_line line) BadLine
  levels_form (words line)

abbrev pub join : List ℕ → Record
join name = Join 0 name Absent

abbrev pub seed : ℕ → Record
seed a = Seed 0 a

abbrev pub cert : ℕ → ℕ → Level → Record
cert a b level = Cert 0 a b level

-- The name behind `account`, which no account has yet.
abbrev pub new_name : List (List ℕ) → List (List ℕ) → Result (List ℕ) TextKind
new_name names words = do
  word ← one_word words
  name ← name_in word
  _ ← fault_if (is_some (number_of names name)) Twice
  _ ← fault_unless (nat_lt (length names) MOST_ACCOUNTS) TooMany
  Ok name

-- `account NAME`: the next account.
unfoldable pub account_line : List Record → List (List ℕ) → Result Record TextKind
account_line k words = do
  name ← new_name (accounts k) words
  Ok (join name)

-- The account behind `seed`.
abbrev pub known_account : List (List ℕ) → List (List ℕ) → Result ℕ TextKind
known_account names words = do
  word ← one_word words
  name ← name_in word
  ok_or (number_of names name) Unknown

-- `seed NAME`: an account is a seed.
unfoldable pub seed_line : List Record → List (List ℕ) → Result Record TextKind
seed_line k words = do
  a ← known_account (accounts k) words
  _ ← fault_if (is_seed k a) Twice
  Ok (seed a)

-- Two accounts by their names: both words are names before either is looked up.
abbrev pub pair_in : List (List ℕ) → List ℕ → List ℕ → Result (ℕ × ℕ) TextKind
pair_in names giver taker = do
  from ← name_in giver
  to ← name_in taker
  a ← ok_or (number_of names from) Unknown
  b ← ok_or (number_of names to) Unknown
  _ ← fault_if (a == b) SelfCert
  Ok (a, b)

-- The certificate behind `cert`, of a level of the site's table.
abbrev pub given_cert : Table → List (List ℕ) → List (List ℕ) → Result Certificate TextKind
given_cert table names words = do
  ws ← three_words words
  level ← level_in table ws.2
  pair ← pair_in names ws.0 ws.1
  Ok (record { from = pair.0; to = pair.1; level = level })

-- `cert NAME NAME LEVEL`: the first account certifies the second, in place of what it said before.
unfoldable pub cert_line : Table → List Record → List (List ℕ) → Result Record TextKind
cert_line table k words = do
  c ← given_cert table (accounts k) words
  _ ← fault_unless (nat_le (standing_count (certs_of k ++ c ∷ [])) MOST_CERTS) TooMany
  Ok (cert c.from c.to c.level)

-- A line that is one of the forms, by its words.
unfoldable pub form : Table → List Record → List (List ℕ) → Result Record TextKind
form table k [] = Err BadLine
form table k (word ∷ words) =
    if bytes_eq word (codes "account") then account_line k words else
    if bytes_eq word (codes "seed") then seed_line k words else
    if bytes_eq word (codes "cert") then cert_line table k words else Err BadLine

-- The records after one line more of a site with this table and these records; or the line's fault.
unfoldable pub site_line : Table → List Record → List ℕ → Result (List Record) TextKind
site_line table k line = do
  _ ← fault_unless (is_line line) BadLine
  x ← form table k (words line)
  Ok (k ++ x ∷ [])
