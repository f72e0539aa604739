-- The laws of opening: what a site kept opens again, as what it was.
use Rattle.std.specs.Prelude.{ℕ, ◌≡◌, ◌⊎◌, List}
use Rattle.trust_types.specs.declared.records.Record.{Record}
use Rattle.trust_types.specs.Tables.{Table}
use Rattle.site_history.specs.Histories.{History, records}
use Rattle.site_history.specs.Legal.{IsLegal}
use Rattle.site_core.specs.declared.opening.OpenFault.{OpenFault}
use Rattle.site_core.specs.declared.opening.OpenFault.TheVariants.{Keeper, NoMemory}
use Rattle.site_core.specs.Books.{AreRowsOf}
use Rattle.site_core.specs.Opening.{Opens, RefusesRows}

-- Rows of the records of a legal history, of either version, open to these records.
abbrev pub KeptRowsOpen : Type 0
KeptRowsOpen = (h : History) (rows : List (List ℕ)) → IsLegal h → AreRowsOf rows (records h) → Opens h.opening rows (records h)

-- Rows open to one list of records at most.
abbrev pub RowsOpenOnce : Type 0
RowsOpenOnce = (opening : Table) (rows : List (List ℕ)) (k l : List Record) → Opens opening rows k → Opens opening rows l → k ≡ l

-- None of rows that open is refused.
abbrev pub OpenRowsPass : Type 0
OpenRowsPass = (opening : Table) (rows : List (List ℕ)) (k : List Record) (fault : OpenFault) → Opens opening rows k → RefusesRows opening rows fault → (fault ≡ Keeper) ⊎ (fault ≡ NoMemory)
