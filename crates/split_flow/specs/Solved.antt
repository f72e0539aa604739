-- A level that is solved: a greatest flow, and a cut of equal value.
use Rattle.std.specs.Prelude.{ℕ, ◌≡◌}
use Rattle.trust_types.specs.declared.levels.Level.{Level}
use Rattle.trust_types.specs.declared.accounts.Node.{Node}
use Rattle.trust_types.specs.Tables.{Table}
use Rattle.trust_types.specs.Graph.{Certificates}
use Rattle.trust_types.specs.Capacity.{AreCapacities}
use Rattle.trust_types.specs.Flow.{Flow, total}
use Rattle.trust_types.specs.Cut.{Sides, IsCut, value}
use Rattle.trust_types.specs.Roster.{IsGreatest, ServesConduits}

-- Under the capacities of a level the flow is greatest and its conduits are served, and the cut is worth as many as it serves.
pub record IsSolved (g : Certificates) (level : Level) (table : Table) (f : Flow) (side : Sides) : Type 0 where
  pub cap : Node → ℕ
  pub capacities : AreCapacities g level table cap
  pub greatest : IsGreatest g level cap f
  pub conduits : ServesConduits g.accounts f
  pub cut : IsCut g level side
  pub equal : value g cap side ≡ total g.accounts f
