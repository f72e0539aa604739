-- A plain graph, copied into parts. The crate's own functions alone speak of it.
use Rattle.std.specs.Prelude.{ℕ, ◌≡◌, ◌<◌, ◌+◌, ◌*◌, ◌-◌, List, length, take, slice_index}
use Rattle.std.specs.List.{between}
use Rattle.trust_types.specs.Layout.{Rows, degree, taker, level_given, row_certificates}
use Rattle.frozen.specs.Parts.{Part, count, marks_seed, degree_in, giver_in, taker_in, level_in, IsPart}
use Rattle.frozen.specs.Sites.{part_at, names, certs}

-- The part has the accounts of a graph from one on and before another, with their names, seed marks and rows.
pub record IsCopy (r : Rows) (named : List (List ℕ)) (first end : ℕ) (p : Part) : Type 0 where
  pub is : IsPart p
  pub size : count p ≡ end - first
  pub names : p.names ≡ between first end named
  pub seeds : (row : ℕ) → row < end - first → marks_seed p row ≡ (row_certificates r).is_seed (first + row)
  pub giver : (row : ℕ) → row < end - first → giver_in p row ≡ first + row
  pub degrees : (row : ℕ) → row < end - first → degree_in p row ≡ degree r (first + row)
  pub takers : (row i : ℕ) → row < end - first → i < degree r (first + row) → taker_in p row i ≡ taker r (first + row) i
  pub levels : (row i : ℕ) → row < end - first → i < degree r (first + row) → level_in p row i ≡ level_given r (first + row) i
  pub certs : slice_index r.starts first + length p.takers ≡ slice_index r.starts end

-- The parts have the accounts of a graph before one, 64 in each but the last.
pub record AreCopies (r : Rows) (named : List (List ℕ)) (end : ℕ) (ps : List Part) : Type 0 where
  pub copies : (k : ℕ) → k < length ps → IsCopy r named (64 * k) (64 * k + count (part_at ps k)) (part_at ps k)
  pub full : (k : ℕ) → k + 1 < length ps → count (part_at ps k) ≡ 64
  pub names : names ps ≡ take end named
  pub certs : certs ps ≡ slice_index r.starts end

-- The numbers from one on.
pub record AreFrom (numbers : List ℕ) (first count : ℕ) : Type 0 where
  pub long : length numbers ≡ count
  pub each : (k : ℕ) → k < count → slice_index numbers k ≡ first + k

-- The numbers less a base.
pub record AreLowered (numbers lowered : List ℕ) (base : ℕ) : Type 0 where
  pub long : length lowered ≡ length numbers
  pub each : (k : ℕ) → k < length numbers → slice_index lowered k + base ≡ slice_index numbers k
