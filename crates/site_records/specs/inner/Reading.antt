-- How a row is read from its front to its end. Each step gives a value, or finds that the bytes are no row.
use Rattle.std.specs.Prelude.{ℕ, Bool, true, false, List, [], ◌∷◌, ◌≡◌, ◌⊎◌, MatchResult, ◌==◌, ◌&&◌, nat_le, nat_lt, Some, None, Result, Ok, Err, codes, decimal, length, take, drop, if◌then◌else◌}
use Rattle.std.specs.List.{position_or_len, slice_split}
use Rattle.std.specs.Option.{ok_or}
use Rattle.std.specs.Str.{bytes_eq, is_utf8}
use Rattle.std.specs.Str.Parse.{digits_value}
use Rattle.form_urlencoded.specs.Form.{decode, byte_serialize}
use Rattle.hex.specs.Hex.{decode_sized, encode_lower}
use Rattle.hex.specs.declared.error.FromHexError.{FromHexError}
use Rattle.trust_types.specs.declared.levels.Level.{Level}
use Rattle.trust_types.specs.declared.limits.TheConstants.{LAST_MOMENT, FEWEST_LEVELS, MOST_LEVELS, GREATEST_ENTRY}
use Rattle.trust_types.specs.declared.records.Record.{Record}
use Rattle.trust_types.specs.declared.records.Record.TheVariants.{Join, Seed, Unseed, Cert, Table, Diary, Article, Reply, Project}
use Rattle.trust_types.specs.declared.records.Secret.{Secret}
use Rattle.trust_types.specs.declared.records.Secret.TheVariants.{Absent, Digest}
use Rattle.trust_types.specs.declared.tables.CapsFault.{CapsFault}
use Rattle.trust_types.specs.Levels.{rank, level_of}
use Rattle.trust_types.specs.Names.{is_name}
use Rattle.trust_types.specs.Tables.{judged_entries, table_with}
use Rattle.site_records.specs.declared.faults.RowFault.{RowFault}
use Rattle.site_records.specs.declared.faults.RowFault.TheVariants.{NotARow, NoMemory}
use Rattle.site_records.specs.declared.versions.Version.{Version}
use Rattle.site_records.specs.declared.versions.Version.TheVariants.{One, Two}

-- What a step gives.
abbrev pub Read : Type 0 → Type 0
Read A = Result A RowFault

infixl 10 ◌>>=◌
abbrev pub ◌>>=◌ : {A B : Type 0} → Read A → (A → Read B) → Read B
(Ok x) >>= f = f x
(Err e) >>= f = Err e

abbrev pub unless_not : Bool → Read (Unit {0})
unless_not true = Ok tt
unless_not false = Err NotARow

-- The bytes begin with the key: what is behind it up to the next `&`, and what is left from there on.
abbrev pub behind_key : List ℕ → List ℕ × List ℕ
behind_key rest = (take (position_or_len (λ b. b == 38) rest) rest, drop (position_or_len (λ b. b == 38) rest) rest)

abbrev pub value_at : List ℕ → List ℕ → Read (List ℕ × List ℕ)
value_at key row =
    if bytes_eq (take (length key) row) key then Ok (behind_key (drop (length key) row)) else Err NotARow

abbrev pub at_end : List ℕ → Read (Unit {0})
at_end [] = Ok tt
at_end (_ ∷ _) = Err NotARow

-- The values behind one, two, three keys, with which the row ends.
abbrev pub one_value : List ℕ → List ℕ → Read (List ℕ)
one_value key row = do
  found ← value_at key row
  _ ← at_end found.1
  Ok found.0

abbrev pub two_values : List ℕ → List ℕ → List ℕ → Read (List ℕ × List ℕ)
two_values first second row = do
  found ← value_at first row
  last ← one_value second found.1
  Ok (found.0, last)

abbrev pub three_values : List ℕ → List ℕ → List ℕ → List ℕ → Read (List ℕ × List ℕ × List ℕ)
three_values first second third row = do
  found ← value_at first row
  others ← two_values second third found.1
  Ok (found.0, others.0, others.1)

-- The number up to a limit whose decimal text the value is.
abbrev pub number_in : ℕ → List ℕ → Read ℕ
number_in most value =
    if bytes_eq (decimal (digits_value 10 value)) value && nat_le (digits_value 10 value) most then Ok (digits_value 10 value) else Err NotARow

abbrev pub account_in : List ℕ → Read ℕ
account_in value = number_in 4294967295 value

abbrev pub name_in : List ℕ → Read (List ℕ)
name_in value = ok_or (if is_name value then Some value else None) NotARow

-- The digest whose digits the value is, in lower case.
abbrev pub digest_from : List ℕ → Result (List ℕ) FromHexError → Read Secret
digest_from value (Ok digest) = if bytes_eq (encode_lower digest) value then Ok (Digest digest) else Err NotARow
digest_from value (Err _) = Err NotARow

abbrev pub digest_in : List ℕ → Read Secret
digest_in value = digest_from value (decode_sized value 32)

abbrev pub secret_in : List ℕ → Read Secret
secret_in value = if length value == 0 then Ok Absent else digest_in value

-- The UTF-8 text to which a form gives this value.
abbrev pub text_in : List ℕ → Read (List ℕ)
text_in value =
    if is_utf8 (decode value) && bytes_eq (byte_serialize (decode value)) value then Ok (decode value) else Err NotARow

abbrev pub version_in : List ℕ → Read Version
version_in value = if bytes_eq value (codes "1") then Ok One else if bytes_eq value (codes "2") then Ok Two else Err NotARow

abbrev pub has_level : Version → Level → Bool
has_level One level = nat_lt (rank level) 4
has_level Two level = true

abbrev pub level_in : Version → List ℕ → Read Level
level_in version value = do
  level ← ok_or (level_of value) NotARow
  _ ← unless_not (has_level version level)
  Ok level

-- A table has 2 to 7 levels, and its entries stand with a `+` between them.
abbrev pub levels_in : List ℕ → Read ℕ
levels_in value = do
  levels ← number_in MOST_LEVELS value
  _ ← unless_not (nat_le FEWEST_LEVELS levels)
  Ok levels

abbrev pub numbers_in : List (List ℕ) → Read (List ℕ)
numbers_in [] = Ok []
numbers_in (value ∷ values) = do
  number ← number_in GREATEST_ENTRY value
  numbers ← numbers_in values
  Ok (number ∷ numbers)

abbrev pub judged : Result (List ℕ) CapsFault → Read (List ℕ)
judged (Ok entries) = Ok entries
judged (Err _) = Err NotARow

abbrev pub entries_in : List ℕ → Read (List ℕ)
entries_in value = do
  entries ← numbers_in (slice_split (λ b. b == 43) value)
  judged (judged_entries entries)

-- What one, two, three values are read as, by a reader for each.
abbrev pub one_read : {A : Type 0} → List ℕ → (List ℕ → Read A) → (A → Record) → List ℕ → Read Record
one_read key in_first record_of row = do
  value ← one_value key row
  a ← in_first value
  Ok (record_of a)

abbrev pub two_read : {A B : Type 0} → List ℕ → List ℕ → (List ℕ → Read A) → (List ℕ → Read B) → (A → B → Record) → List ℕ → Read Record
two_read first second in_first in_second record_of row = do
  values ← two_values first second row
  a ← in_first values.0
  b ← in_second values.1
  Ok (record_of a b)

abbrev pub three_read : {A B C : Type 0} → List ℕ → List ℕ → List ℕ → (List ℕ → Read A) → (List ℕ → Read B) → (List ℕ → Read C) → (A → B → C → Record) → List ℕ → Read Record
three_read first second third in_first in_second in_third record_of row = do
  values ← three_values first second third row
  a ← in_first values.0
  b ← in_second values.1
  c ← in_third values.2
  Ok (record_of a b c)

-- The record of each kind, by what is behind the moment.
abbrev pub join_in : ℕ → List ℕ → Read Record
join_in moment row = two_read (codes "&n=") (codes "&s=") name_in secret_in (λ name secret. Join moment name secret) row

abbrev pub seed_in : ℕ → List ℕ → Read Record
seed_in moment row = one_read (codes "&a=") account_in (λ subject. Seed moment subject) row

abbrev pub unseed_in : ℕ → List ℕ → Read Record
unseed_in moment row = one_read (codes "&a=") account_in (λ subject. Unseed moment subject) row

abbrev pub cert_in : Version → ℕ → List ℕ → Read Record
cert_in version moment row = three_read (codes "&a=") (codes "&b=") (codes "&l=") account_in account_in (level_in version) (λ author subject level. Cert moment author subject level) row

abbrev pub table_in : ℕ → List ℕ → Read Record
table_in moment row = two_read (codes "&g=") (codes "&c=") levels_in entries_in (λ levels entries. Table moment (table_with levels entries)) row

abbrev pub diary_in : ℕ → List ℕ → Read Record
diary_in moment row = two_read (codes "&a=") (codes "&t=") account_in text_in (λ author text. Diary moment author text) row

abbrev pub article_in : ℕ → List ℕ → Read Record
article_in moment row = three_read (codes "&a=") (codes "&h=") (codes "&t=") account_in text_in text_in (λ author title text. Article moment author title text) row

abbrev pub reply_in : ℕ → List ℕ → Read Record
reply_in moment row = three_read (codes "&a=") (codes "&i=") (codes "&t=") account_in account_in text_in (λ author article text. Reply moment author article text) row

abbrev pub project_in : ℕ → List ℕ → Read Record
project_in moment row = three_read (codes "&a=") (codes "&n=") (codes "&t=") account_in name_in text_in (λ author name text. Project moment author name text) row

-- The kinds that version 1 hadn't.
abbrev pub new_kind : Version → List ℕ → ℕ → List ℕ → Read Record
new_kind One kind moment row = Err NotARow
new_kind Two kind moment row =
    if bytes_eq kind (codes "unseed") then unseed_in moment row else
    if bytes_eq kind (codes "table") then table_in moment row else Err NotARow

-- The kinds with texts.
abbrev pub post : Version → List ℕ → ℕ → List ℕ → Read Record
post version kind moment row =
    if bytes_eq kind (codes "diary") then diary_in moment row else
    if bytes_eq kind (codes "article") then article_in moment row else
    if bytes_eq kind (codes "reply") then reply_in moment row else
    if bytes_eq kind (codes "project") then project_in moment row else new_kind version kind moment row

unfoldable pub record_in : Version → List ℕ → ℕ → List ℕ → Read Record
record_in version kind moment row =
    if bytes_eq kind (codes "cert") then cert_in version moment row else
    if bytes_eq kind (codes "join") then join_in moment row else
    if bytes_eq kind (codes "seed") then seed_in moment row else post version kind moment row

-- The record whose row the bytes are.
unfoldable pub read : List ℕ → Read Record
read bytes = do
  version ← value_at (codes "v=") bytes
  kind ← value_at (codes "&k=") version.1
  moment ← value_at (codes "&m=") kind.1
  form ← version_in version.0
  at ← number_in LAST_MOMENT moment.0
  record_in form kind.0 at moment.1

-- What was read, unless memory ran out.
abbrev pub Reads : {A : Type 0} → Read A → Read A → Type 0
Reads result found = MatchResult result (λ x. found ≡ Ok x) (λ fault. (fault ≡ NoMemory) ⊎ (found ≡ Err fault))
