-- Rosters of one frozen graph, for all grades of its table.
use Rattle.std.specs.Prelude.{ℕ, Bool, false, ◌≡◌, ◌+◌, ◌-◌, if◌then◌else◌, List, find, Option, Some, None, IfSome, slice_get, length, unwrap_or}
use Rattle.trust_types.specs.declared.levels.Level.{Level}
use Rattle.trust_types.specs.declared.levels.Level.TheVariants.{Observer}
use Rattle.trust_types.specs.Levels.{rank, is_grade, grades_down}
use Rattle.trust_types.specs.Proven.{Lists, IsProven}
use Rattle.trust_types.specs.Roster.{IsRoster}
use Rattle.frozen.specs.Revision.{Revision, certificates}
use Rattle.roster_form.specs.Bounded.{IsBounded, is_accepted}
use Rattle.roster_form.specs.declared.level_rosters.LevelRoster.{LevelRoster}
use Rattle.roster_form.specs.LevelRosters.{lists_of, AreAmong}

-- The graph, and the lists of a roster for each grade of its table, lowest first.
pub record Rosters : Type 0 where
  pub graph : Revision
  pub grades : List Lists

-- The lists of a grade's roster. Observer has none, and a level that the table hasn't has none.
abbrev pub lists_at : Rosters → Level → Option Lists
lists_at c level = if is_grade level then slice_get c.grades (rank level - 1) else None

-- What is known of a grade's roster: its lists prove whom they serve, so these are the accounts that a greatest flow serves, and of a
-- set of accounts without a seed no more than its bound.
pub record IsSound (f : Revision) (level : Level) (r : Lists) : Type 0 where
  pub proven : IsProven (certificates f) level f.caps r
  pub roster : IsRoster (certificates f) level f.caps r.served
  pub bounded : IsBounded (certificates f) level f.caps r.served
  pub among : AreAmong (certificates f).accounts r

-- There is a roster for each grade of the table, and this is known of each.
pub record AreSound (c : Rosters) : Type 0 where
  pub count : length c.grades + 1 ≡ c.graph.caps.levels
  pub each : (level : Level) → IfSome (lists_at c level) (IsSound c.graph level)

-- The roster is of this level, and its lists prove whom they serve.
pub record IsRosterFor (f : Revision) (level : Level) (r : LevelRoster) : Type 0 where
  pub grade : r.level ≡ level
  pub proven : IsProven (certificates f) level f.caps (lists_of r)
  pub among : AreAmong (certificates f).accounts (lists_of r)

-- Rosters of the lowest grades, lowest first, each proven over the graph.
abbrev pub AreLowest : Revision → List LevelRoster → Type 0
AreLowest f rosters = (i : ℕ) (r : LevelRoster) → slice_get rosters i ≡ Some r → (rank r.level ≡ i + 1) × IsRosterFor f r.level r

-- Rosters of all grades of the graph's table, lowest first, each proven over the graph.
pub record AreRostersFor (f : Revision) (rosters : List LevelRoster) : Type 0 where
  pub count : length rosters + 1 ≡ f.caps.levels
  pub lowest : AreLowest f rosters

-- Whether the roster of a level has an account.
abbrev pub accepts : Rosters → ℕ → Level → Bool
accepts c account level = elim (lists_at c level) [ None ↦ false | Some r ↦ is_accepted r.served account ]

-- The level that an account holds: the highest whose roster has it, and Observer where none has.
abbrev pub held_level : Rosters → ℕ → Level
held_level c account = unwrap_or (find (accepts c account) grades_down) Observer
