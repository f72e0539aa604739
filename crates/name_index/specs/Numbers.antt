-- The numbers of names that are kept elsewhere.
use Rattle.std.specs.Prelude.{ℕ, List}
use Rattle.name_index.specs.declared.key_table.Entry.{Entry}
use Rattle.name_index.specs.inner.Indexes.{IsTableOf}

-- Entries that tell a name's number by its key, and how many more fit before memory is taken.
pub record Numbers : Type 0 where
  pub entries : List Entry
  pub room : ℕ

-- The entries tell of each name its place among these, and no other name is found.
abbrev pub AreNumbersOf : List (List ℕ) → List Entry → Type 0
AreNumbersOf names entries = IsTableOf names entries
