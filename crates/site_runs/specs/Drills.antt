-- What `drill N` prints. The drill and its lines are this project's own.
use Rattle.std.specs.Prelude.{ℕ, ◌≡◌, List, ◌++◌, codes, decimal}
use Rattle.trust_types.specs.declared.levels.Level.{Level}
use Rattle.trust_types.specs.declared.levels.Level.TheVariants.{Apprentice, Journeyer, Master}
use Rattle.trust_types.specs.declared.accounts.Node.{Node}
use Rattle.trust_types.specs.Levels.{level_name}
use Rattle.trust_types.specs.Tables.{Table, standard_table}
use Rattle.trust_types.specs.Graph.{Certificates}
use Rattle.trust_types.specs.Capacity.{AreCapacities}
use Rattle.trust_types.specs.Flow.{Flow, total}
use Rattle.trust_types.specs.Roster.{IsGreatest}
use Rattle.drill.specs.Drill.{drill_graph}
use Rattle.commands.specs.declared.outcome.Outcome.{Outcome}
use Rattle.commands.specs.declared.outcome.Outcome.TheVariants.{Answered, Misused, TooLong, Unread, OutOfMemory}
use Rattle.commands.specs.declared.status.Status.TheVariants.{Done}

-- Some feasible flow serves so many accounts, and none serves more.
pub record IsGreatestTotal (g : Certificates) (level : Level) (table : Table) (n : ℕ) : Type 0 where
  pub capacity : Node → ℕ
  pub capacities : AreCapacities g level table capacity
  pub flow : Flow
  pub greatest : IsGreatest g level capacity flow
  pub serves : total g.accounts flow ≡ n

-- The line of a grade: how many accounts are accepted, and what the cut is worth.
abbrev pub line_of : Level → ℕ → ℕ → List ℕ
line_of level accepted worth = level_name level ++ codes " accepted " ++ decimal accepted ++ codes " cut " ++ decimal worth ++ codes "\n"

-- The line of a grade of the drill's site: each of its two numbers is the greatest total at that grade.
abbrev pub IsDrillLine : ℕ → Level → List ℕ → Type 0
IsDrillLine number level line = (n : ℕ) × IsGreatestTotal (drill_graph number) level standard_table n × (line ≡ line_of level n n)

-- The lines of the three grades, lowest first.
pub record AreDrillLines (number : ℕ) (text : List ℕ) : Type 0 where
  pub first : List ℕ
  pub second : List ℕ
  pub third : List ℕ
  pub apprentice : IsDrillLine number Apprentice first
  pub journeyer : IsDrillLine number Journeyer second
  pub master : IsDrillLine number Master third
  pub whole : text ≡ first ++ second ++ third

-- What the drill of a number comes to. Its one want is that of memory.
abbrev pub ComesToDrill : ℕ → Outcome → Type 0
ComesToDrill number (Answered answer) = (answer.status ≡ Done) × AreDrillLines number answer.text.items
ComesToDrill number Misused = ⊥
ComesToDrill number TooLong = ⊥
ComesToDrill number Unread = ⊥
ComesToDrill number OutOfMemory = Unit {0}
