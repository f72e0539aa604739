-- What a book keeps of its history, and of the rows of its keeper.
use Rattle.std.specs.Prelude.{ℕ, ◌≡◌, ◌≤◌, ◌+◌, ◌-◌, ◌^◌, ◌⊎◌, List, [], ◌∷◌, ◌++◌, Bool, true, false, Some, None, Result, Ok, Err, count_by, map}
use Rattle.trust_types.specs.declared.records.Record.{Record}
use Rattle.outside.specs.KeptRows.{ToldRows}
use Rattle.site_records.specs.Records.{IsRecord}
use Rattle.site_records.specs.Rows.{row, IsRowOf}
use Rattle.site_history.specs.declared.replies.Reply.{Reply}
use Rattle.site_history.specs.declared.replies.Reply.TheVariants.{Fault}
use Rattle.site_history.specs.declared.replies.Refusal.{Refusal}
use Rattle.site_history.specs.Histories.{History, records_added, is_fault}
use Rattle.site_history.specs.Legal.{IsLegal}

-- A book: its history, the keeper as it was found when the book was opened, and the keeper now.
pub record Kept (K : Type 0) : Type 0 where
  pub history : History
  pub found : K
  pub keeper : K

-- With these rows more at the end.
abbrev pub append_rows : ToldRows → List (List ℕ) → ToldRows
append_rows None more = None
append_rows (Some rows) more = Some (rows ++ more)

-- Rows of records, one each, in their order and of either version.
abbrev pub AreRowsOf : List (List ℕ) → List Record → Type 0
AreRowsOf [] [] = Unit {0}
AreRowsOf [] (x ∷ k) = ⊥
AreRowsOf (bytes ∷ rows) [] = ⊥
AreRowsOf (bytes ∷ rows) (x ∷ k) = IsRecord x × IsRowOf x bytes × AreRowsOf rows k

abbrev pub AreFoundRows : ToldRows → List Record → Type 0
AreFoundRows None k = Unit {0}
AreFoundRows (Some rows) k = AreRowsOf rows k

-- The history is legal. Where the keeper tells its rows, they are those that were found, which are rows of the opened records, and then one of each
-- record that an entry added. The faults in the history are at most those that the keeper has counted since, unless its count stands at its last value.
pub record IsSound {K : Type 0} (rows : K → ToldRows) (faults : K → ℕ) (b : Kept K) : Type 0 where
  pub legal : IsLegal b.history
  pub found : AreFoundRows (rows b.found) b.history.opened
  pub kept : rows b.keeper ≡ append_rows (rows b.found) (map row (records_added b.history))
  pub counted : (faults b.found + count_by is_fault b.history.entries ≤ faults b.keeper) ⊎ (2 ^ 64 - 1 ≤ faults b.keeper)

-- Whether an answer tells of a fault of the keeper.
abbrev pub is_fault_answer : Result Reply Refusal → Bool
is_fault_answer (Ok Fault) = true
is_fault_answer (Ok reply) = false
is_fault_answer (Err refusal) = false
