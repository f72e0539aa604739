-- Capacity tables, and what is amiss with a number of levels and a list of entries that are none.
use Rattle.std.specs.Prelude.{ℕ, Bool, List, [], ◌∷◌, Result, Ok, Err, ◌≡◌, ◌≤◌, ◌<◌, ◌+◌, ◌-◌, ◌==◌, ◌&&◌, nat_le, nat_lt, length, filter, drop, slice_index, if◌then◌else◌}
use Rattle.std.specs.List.{list_any, zip}
use Rattle.trust_types.specs.declared.levels.Level.{Level}
use Rattle.trust_types.specs.declared.tables.CapsFault.{CapsFault}
use Rattle.trust_types.specs.declared.tables.CapsFault.TheVariants.{Levels, Empty, Long, Zero, Large, Rises, EndNotOne}
use Rattle.trust_types.specs.Levels.{rank, is_grade, grades}

-- How many levels a site has, and the capacity of a node by its distance from the root.
pub record Table : Type 0 where
  pub levels : ℕ
  pub entries : List ℕ

-- A number of levels that a table may have: 2 to 7.
abbrev pub IsLevelCount : ℕ → Type 0
IsLevelCount levels = (2 ≤ levels) × (levels ≤ 7)

-- The entries of a table: 1 to 16, each 1 to 2,000, none greater than the one before, and the last 1.
pub record AreEntries (entries : List ℕ) : Type 0 where
  pub some : 1 ≤ length entries
  pub few : length entries ≤ 16
  pub least : (i : ℕ) → i < length entries → 1 ≤ slice_index entries i
  pub most : (i : ℕ) → i < length entries → slice_index entries i ≤ 2000
  pub falls : (i : ℕ) → i + 1 < length entries → slice_index entries (i + 1) ≤ slice_index entries i
  pub end : slice_index entries (length entries - 1) ≡ 1

-- A table that a site may have.
pub record IsTable (table : Table) : Type 0 where
  pub levels : IsLevelCount table.levels
  pub entries : AreEntries table.entries

-- Whether some entry is greater than the one before.
abbrev pub rises : List ℕ → Bool
rises entries = list_any (λ pair. nat_lt pair.0 pair.1) (zip entries (drop 1 entries))

-- The entries, or their first fault: the first of this list that applies.
abbrev pub judged_entries : List ℕ → Result (List ℕ) CapsFault
judged_entries entries =
    if length entries == 0 then Err Empty else
    if nat_lt 16 (length entries) then Err Long else
    if list_any (λ entry. entry == 0) entries then Err Zero else
    if list_any (λ entry. nat_lt 2000 entry) entries then Err Large else
    if rises entries then Err Rises else
    if slice_index entries (length entries - 1) == 1 then Ok entries else Err EndNotOne

-- The table of so many levels with these entries.
abbrev pub table_with : ℕ → List ℕ → Table
table_with levels entries = record { levels = levels; entries = entries }

-- The table that a number of levels and entries are, or the first fault.
abbrev pub judged_table : ℕ → List ℕ → Result Table CapsFault
judged_table levels entries =
    if nat_le 2 levels && nat_le levels 7
    then (elim (judged_entries entries) [ Ok kept ↦ Ok (table_with levels kept) | Err fault ↦ Err fault ])
    else Err Levels

abbrev pub standard_entries : List ℕ
standard_entries = 800 ∷ 200 ∷ 50 ∷ 12 ∷ 4 ∷ 2 ∷ 1 ∷ []

-- The table that a site has unless it is told another.
abbrev pub standard_table : Table
standard_table = table_with 4 standard_entries

-- The levels of a table are the first ones of the order.
abbrev pub has_level : Table → Level → Bool
has_level table level = nat_lt (rank level) table.levels

-- The grades of a table are those among its levels.
abbrev pub has_grade : Table → Level → Bool
has_grade table level = is_grade level && has_level table level

-- Its grades, lowest first.
abbrev pub grades_of : Table → List Level
grades_of table = filter (has_grade table) grades
