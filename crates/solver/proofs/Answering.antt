-- What is known of a roster that was read, as one fact.
use Rattle.std.proofs.Common.{◌≡◌, IfOk}
use Rattle.std.specs.Prelude.{Result, Ok, Err}
use Rattle.trust_types.specs.declared.levels.Level.{Level}
use Rattle.trust_types.specs.Proven.{IsProven}
use Rattle.frozen.specs.Revision.{Revision, certificates}
use Rattle.roster_form.specs.declared.level_rosters.LevelRoster.{LevelRoster}
use Rattle.roster_form.specs.LevelRosters.{lists_of, AreAmong}
use Rattle.roster_form.specs.Candidates.{IsRosterFor}

pub roster_for : {E : Type 0} (f : Revision) (level : Level) (result : Result LevelRoster E) → IfOk result (λ r. r.level ≡ level)
    → IfOk result (λ r. IsProven (certificates f) level f.caps (lists_of r)) → IfOk result (λ r. AreAmong (certificates f).accounts (lists_of r))
    → IfOk result (IsRosterFor f level)
roster_for f level (Ok r) grade proven among = record { grade = grade; proven = proven; among = among }
roster_for f level (Err e) grade proven among = grade
