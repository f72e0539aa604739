-- Rows of a part, as they are searched and written. The crate's own functions alone speak of it.
use Rattle.std.specs.Prelude.{ℕ, ◌≡◌, ◌<◌, ◌≤◌, ◌+◌, List, length, slice_index}
use Rattle.frozen.specs.Parts.{Part, degree_in, taker_in}

-- The numbers from a place on are one greater.
pub record IsRaised (old new : List ℕ) (from : ℕ) : Type 0 where
  pub long : length new ≡ length old
  pub before : (k : ℕ) → k < from → slice_index new k ≡ slice_index old k
  pub behind : (k : ℕ) → from ≤ k → k < length old → slice_index new k ≡ slice_index old k + 1

-- Where a taker stands in a row, or where it would.
abbrev pub IsFound : Part → ℕ → ℕ → ℕ → Type 0
IsFound p row to i = (i < degree_in p row) × (taker_in p row i ≡ to)

pub record IsPlace (p : Part) (row to place : ℕ) : Type 0 where
  pub within : place ≤ degree_in p row
  pub before : (i : ℕ) → i < place → taker_in p row i < to
  pub behind : (i : ℕ) → place ≤ i → i < degree_in p row → to < taker_in p row i
