-- What appends add to the rows of a keeper, and what fetches find among them, where it tells its rows.
use Rattle.std.specs.Prelude.{◌≡◌, ◌≤◌, ℕ, Bool, true, false, List, [], ◌∷◌, ◌++◌, length, slice_get, Option, Some, None, Result, Ok, Err, MatchResult}
use Rattle.outside.specs.declared.keeper.KeepFault.{KeepFault}
use Rattle.outside.specs.declared.keeper.KeepFault.TheVariants.{Failed, NoMemory}
use Rattle.outside.specs.declared.keeper.Fetched.{Fetched}
use Rattle.outside.specs.declared.keeper.Fetched.TheVariants.{Row, End}

-- the rows of a keeper, where it tells them
abbrev pub ToldRows : Type 0
ToldRows = Option (List (List ℕ))

-- with one row more at the end
abbrev pub append_row : ToldRows → List ℕ → ToldRows
append_row None row = None
append_row (Some rows) row = Some (rows ++ row ∷ [])

-- An append that was answered Ok added the row at the end. At any other answer the rows are as they were.
abbrev pub AppendsRow : ToldRows → ToldRows → Result (Unit {0}) KeepFault → List ℕ → Type 0
AppendsRow rows rows' result row = MatchResult result (λ _. rows' ≡ append_row rows row) (λ _. rows' ≡ rows)

-- Row n, counted from 0, is these bytes; or there are at most n rows.
abbrev pub Finds : ToldRows → ℕ → Fetched → List ℕ → Type 0
Finds None n found bytes = Unit {0}
Finds (Some rows) n Row bytes = slice_get rows n ≡ Some bytes
Finds (Some rows) n End bytes = length rows ≤ n

-- no row was given
abbrev pub GivesNone : Result Fetched KeepFault → Type 0
GivesNone (Ok Row) = ⊥
GivesNone (Ok End) = Unit {0}
GivesNone (Err fault) = Unit {0}

-- a call on a keeper failed
abbrev pub is_failed : {T : Type 0} → Result T KeepFault → Bool
is_failed (Ok x) = false
is_failed (Err Failed) = true
is_failed (Err NoMemory) = false
