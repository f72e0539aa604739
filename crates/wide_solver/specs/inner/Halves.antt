-- Grades that follow one another, by rank. The crate's own functions alone speak of them.
use Rattle.std.specs.Prelude.{ℕ, ◌≡◌, ◌<◌, ◌≤◌, ◌+◌, List, Some, slice_get}
use Rattle.trust_types.specs.declared.levels.Level.{Level}
use Rattle.trust_types.specs.Levels.{rank, IsGrade}
use Rattle.frozen.specs.Revision.{Revision}
use Rattle.roster_form.specs.declared.level_rosters.LevelRoster.{LevelRoster}
use Rattle.roster_form.specs.Candidates.{IsRosterFor}

-- Rosters of grades that follow one another from a rank on, each proven over the graph.
abbrev pub AreRostersFrom : Revision → ℕ → List LevelRoster → Type 0
AreRostersFrom f low rosters = (i : ℕ) (r : LevelRoster) → slice_get rosters i ≡ Some r → (rank r.level ≡ i + low) × IsRosterFor f r.level r

-- A fact of each grade.
abbrev pub OfGrades : (Level → Type 0) → Type 0
OfGrades P = (level : Level) → IsGrade level → P level

-- A fact of so many levels from a rank on.
abbrev pub OfRanks : (Level → Type 0) → ℕ → ℕ → Type 0
OfRanks P low count = (level : Level) → low ≤ rank level → rank level < low + count → P level
