-- Over which rows a site is opened, and where others are refused.
use Rattle.std.specs.Prelude.{ℕ, Bool, true, false, ◌≡◌, ◌≤◌, ◌+◌, ◌⊎◌, List, ◌∷◌, ◌++◌, Result, Ok, Err, length}
use Rattle.trust_types.specs.declared.records.Record.{Record}
use Rattle.trust_types.specs.Kept.{Continues}
use Rattle.trust_types.specs.Tables.{Table}
use Rattle.site_records.specs.Records.{IsRecord}
use Rattle.site_records.specs.Rows.{IsRowOf}
use Rattle.site_history.specs.Histories.{just_opened}
use Rattle.site_history.specs.Legal.{IsLegal, MOST_PLACES}
use Rattle.site_state.specs.Opened.{IsWithinLimits}
use Rattle.site_core.specs.declared.opening.OpenFault.{OpenFault}
use Rattle.site_core.specs.declared.opening.OpenFault.TheVariants.{Keeper, BadRow, Full, NoMemory}
use Rattle.site_core.specs.Books.{AreRowsOf}

-- The rows open to these records: they are rows of them, one each, of either version, and a site that was opened with them is legal.
abbrev pub Opens : Table → List (List ℕ) → List Record → Type 0
Opens opening rows k = AreRowsOf rows k × IsLegal (just_opened opening k)

-- The n-th row, counted from 1, with the records to which those before it open.
pub record IsRowAt (opening : Table) (rows : List (List ℕ)) (n : ℕ) (k : List Record) (bytes : List ℕ) : Type 0 where
  pub before : List (List ℕ)
  pub after : List (List ℕ)
  pub there : rows ≡ before ++ bytes ∷ after
  pub opens : Opens opening before k
  pub number : n ≡ length k + 1

-- The row is that of no record that continues these.
abbrev pub ContinuesNone : Table → List Record → List ℕ → Type 0
ContinuesNone opening k bytes = (x : Record) → IsRecord x → IsRowOf x bytes → ¬ (Continues opening k x)

-- There are as many records as a history may have places, or the row's continues them but passes a limit.
abbrev pub PassesLimit : Table → List Record → List ℕ → Type 0
PassesLimit opening k bytes = (length k ≡ MOST_PLACES) ⊎ ((x : Record) × IsRecord x × IsRowOf x bytes × Continues opening k x × ¬ (IsWithinLimits k x))

-- Why a site isn't opened over rows: the first row that is refused. A fault of the keeper has its cause in its count, and out of memory may come
-- wherever it likes.
abbrev pub RefusesRows : Table → List (List ℕ) → OpenFault → Type 0
RefusesRows opening rows Keeper = Unit {0}
RefusesRows opening rows (BadRow n) = (k : List Record) × (bytes : List ℕ) × IsRowAt opening rows n k bytes × (n ≤ MOST_PLACES) × ContinuesNone opening k bytes
RefusesRows opening rows (Full n) = (k : List Record) × (bytes : List ℕ) × IsRowAt opening rows n k bytes × PassesLimit opening k bytes
RefusesRows opening rows NoMemory = Unit {0}

-- Whether an answer tells of a fault of the keeper.
abbrev pub is_keeper_fault : OpenFault → Bool
is_keeper_fault Keeper = true
is_keeper_fault (BadRow n) = false
is_keeper_fault (Full n) = false
is_keeper_fault NoMemory = false

abbrev pub is_keepers : {T : Type 0} → Result T OpenFault → Bool
is_keepers (Ok x) = false
is_keepers (Err fault) = is_keeper_fault fault
