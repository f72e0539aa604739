-- How an index holds names: their numbers by spread key, in a table and a map. Other crates see of it `AreNumbersOf` alone.
use Rattle.std.specs.Prelude.{ℕ, ◌≡◌, ◌≤◌, ◌*◌, ◌%◌, ◌^◌, List, Some, None, All, length}
use Rattle.std.specs.Ordering.{nat_cmp}
use Rattle.std.specs.BTreeMap as tree
use Rattle.trust_types.specs.Names.{IsName, name_key}
use Rattle.trust_types.specs.NameLists.{number_of, AreApart}
use Rattle.name_index.specs.inner.KeyTables.{LacksKey}
use Rattle.name_index.specs.declared.key_table.Entry.{Entry}
use Rattle.name_index.specs.declared.index.TheConstants.{SPREAD}

-- The number by which an index looks a name up: its key, spread over the numbers below 2 ^ 128.
unfoldable pub spread_key : List ℕ → ℕ
spread_key name = name_key name * SPREAD % 2 ^ 128

-- If a name has the entry's key, the entry has that name's number.
abbrev pub HasNumber : List (List ℕ) → Entry → Type 0
HasNumber names entry = (name : List ℕ) → IsName name → spread_key name ≡ entry.key → number_of names name ≡ Some entry.number

-- No entry has another number than that of the name with its key, and each name has an entry.
pub record IsTableOf (names : List (List ℕ)) (table : List Entry) : Type 0 where
  pub numbered : All (HasNumber names) table
  pub whole : (name : List ℕ) → IsName name → LacksKey table (spread_key name) → number_of names name ≡ None

-- The names differ. The table has the numbers of some, and the map those of all others.
pub record IsIndexed (names : List (List ℕ)) (table : List Entry) (recent : tree.BTreeMap ℕ ℕ) : Type 0 where
  pub apart : AreApart names
  pub few : length names ≤ 2 ^ 32
  pub numbered : All (HasNumber names) table
  pub others : (name : List ℕ) → IsName name → LacksKey table (spread_key name) → tree.get nat_cmp recent (spread_key name) ≡ number_of names name
