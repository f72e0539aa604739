-- For the opening of a site alone: one row after another.
use Rattle.std.specs.Prelude.{ℕ, ◌≡◌, ◌+◌, List, [], ◌++◌, IfSome, length}
use Rattle.trust_types.specs.declared.records.Record.{Record}
use Rattle.trust_types.specs.Kept.{Continues}
use Rattle.trust_types.specs.Tables.{Table}
use Rattle.outside.specs.declared.keeper.Fetched.{Fetched}
use Rattle.outside.specs.declared.keeper.Fetched.TheVariants.{Row, End}
use Rattle.outside.specs.KeptRows.{ToldRows}
use Rattle.site_records.specs.Records.{IsRecord}
use Rattle.site_records.specs.Rows.{IsRowOf}
use Rattle.site_history.specs.Histories.{History, with_opened}
use Rattle.site_state.specs.Opened.{IsWithinLimits}
use Rattle.site_core.specs.declared.opening.OpenFault.{OpenFault}
use Rattle.site_core.specs.declared.opening.OpenFault.TheVariants.{Keeper, BadRow, Full, NoMemory}
use Rattle.site_core.specs.Books.{AreRowsOf}
use Rattle.site_core.specs.Opening.{Opens, ContinuesNone}

-- The rows begin with those of these records.
abbrev pub BeginWith : List (List ℕ) → List Record → Type 0
BeginWith rows k = (front : List (List ℕ)) × (rest : List (List ℕ)) × (rows ≡ front ++ rest) × AreRowsOf front k

-- A site was opened with the first n rows, where they are told, and nothing else happened.
pub record HasRead (told : ToldRows) (n : ℕ) (h : History) : Type 0 where
  pub alone : h.entries ≡ []
  pub count : length h.opened ≡ n
  pub begun : IfSome told (λ rows. BeginWith rows h.opened)

-- What became of row n, counted from 0: the site was opened with it too, or there is none, and all rows are read.
abbrev pub ReadsNext : ToldRows → ℕ → History → History → Fetched → Type 0
ReadsNext told n old new Row = HasRead told (n + 1) new × (new.opening ≡ old.opening)
ReadsNext told n old new End = (new ≡ old) × IfSome told (λ rows. Opens old.opening rows old.opened)

-- Why a site that was opened with these records isn't opened with one more, out of its row.
abbrev pub RefusesRow : Table → List Record → List ℕ → OpenFault → Type 0
RefusesRow opening k bytes Keeper = ⊥
RefusesRow opening k bytes (BadRow n) = (n ≡ length k + 1) × ContinuesNone opening k bytes
RefusesRow opening k bytes (Full n) = (n ≡ length k + 1) × ((x : Record) × IsRecord x × IsRowOf x bytes × Continues opening k x × ¬ (IsWithinLimits k x))
RefusesRow opening k bytes NoMemory = Unit {0}

-- A site was opened with the record of a row.
abbrev pub OpensRow : History → History → List ℕ → Type 0
OpensRow old new bytes = (x : Record) × IsRecord x × IsRowOf x bytes × (new ≡ with_opened old x)

-- A fault of a call on a keeper, where it was one.
abbrev pub IsOutside : OpenFault → Type 0
IsOutside Keeper = Unit {0}
IsOutside (BadRow n) = ⊥
IsOutside (Full n) = ⊥
IsOutside NoMemory = Unit {0}
