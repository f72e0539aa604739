-- Parts of a site: up to 64 accounts with neighbouring numbers, with their names, seed marks and given certificates.
use Rattle.std.specs.Prelude.{ℕ, zero, suc, Bool, false, ◌≡◌, ◌<◌, ◌≤◌, ◌+◌, ◌-◌, ◌^◌, ◌==◌, if◌then◌else◌, List, [], ◌∷◌, length, slice_index, slice_index_or}
use Rattle.trust_types.specs.declared.levels.Level.{Level}
use Rattle.trust_types.specs.declared.levels.Level.TheVariants.{Observer}
use Rattle.trust_types.specs.declared.graphs.Cert.{Cert}
use Rattle.trust_types.specs.Levels.{IsGrade}

-- A row for each account. The rows follow one another in lists of takers and levels, which stand side by side.
pub record Part : Type 0 where
  -- for each account, its name
  pub names : List (List ℕ)
  -- for each account, whether it is a seed
  pub seeds : List Bool
  -- for each account, its number, if it gives any certificate
  pub givers : List ℕ
  -- for each account, where its row begins; and where the last one ends
  pub starts : List ℕ
  pub takers : List ℕ
  pub levels : List Level

-- No account yet.
abbrev pub no_part : Part
no_part = record { names = []; seeds = []; givers = []; starts = 0 ∷ []; takers = []; levels = [] }

-- How many accounts it has.
abbrev pub count : Part → ℕ
count p = length p.names

abbrev pub marks_seed : Part → ℕ → Bool
marks_seed p row = slice_index_or p.seeds row false

abbrev pub degree_in : Part → ℕ → ℕ
degree_in p row = slice_index p.starts (row + 1) - slice_index p.starts row

abbrev pub giver_in : Part → ℕ → ℕ
giver_in p row = slice_index p.givers row

abbrev pub taker_in : Part → ℕ → ℕ → ℕ
taker_in p row i = slice_index p.takers (slice_index p.starts row + i)

abbrev pub level_in : Part → ℕ → ℕ → Level
level_in p row i = slice_index_or p.levels (slice_index p.starts row + i) Observer

-- The i-th certificate of a row.
abbrev pub given_in : Part → ℕ → ℕ → Cert
given_in p row i = record { from = giver_in p row; to = taker_in p row i; level = level_in p row i }

-- The level of the certificate for b among the first ones of a row: those of these takers, at these levels.
abbrev pub among : (ℕ → ℕ) → (ℕ → Level) → ℕ → ℕ → Level
among taker level b zero = Observer
among taker level b (suc i) = if taker i == b then level i else among taker level b i

-- The level at which the account of a row certifies b; Observer where it doesn't.
abbrev pub standing_in : Part → ℕ → ℕ → Level
standing_in p row b = among (taker_in p row) (level_in p row) b (degree_in p row)

-- The rows follow one another and fill the lists; each rises by taker, and none of its certificates is of level Observer.
pub record IsPart (p : Part) : Type 0 where
  pub few : count p ≤ 64
  pub seeds : length p.seeds ≡ count p
  pub givers : length p.givers ≡ count p
  pub starts : length p.starts ≡ count p + 1
  pub begins : slice_index p.starts 0 ≡ 0
  pub ends : slice_index p.starts (count p) ≡ length p.takers
  pub follow : (row : ℕ) → row < count p → slice_index p.starts row ≤ slice_index p.starts (row + 1)
  pub within : (row : ℕ) → row ≤ count p → slice_index p.starts row ≤ length p.takers
  pub short : length p.takers < 2 ^ 32
  pub levels : length p.levels ≡ length p.takers
  pub grade : (row i : ℕ) → row < count p → i < degree_in p row → IsGrade (level_in p row i)
  pub rises : (row i j : ℕ) → row < count p → i < j → j < degree_in p row → taker_in p row i < taker_in p row j

-- What contracts see of a block: its part of a site, and whether there is room for one account and one certificate more.
pub record PartWithRoom : Type 0 where
  pub part : Part
  pub has_room : Bool
