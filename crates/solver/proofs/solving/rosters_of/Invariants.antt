use Rattle.std.proofs.Common.{ℕ, ◌≡◌, ◌≤◌, ◌+◌, List, length, Some, Option, Vec, vec_capacity, Global}
use Rattle.frozen.specs.Revision.{Revision}
use Rattle.roster_form.specs.declared.level_rosters.LevelRoster.{LevelRoster}
use Rattle.roster_form.specs.Candidates.{AreLowest}
use Rattle.solver.proofs.solving.rosters_of.Given as goal

-- The rosters of the grades below a rank were found, in reserved room, and the graph is laid out in the workspace.
pub record Ranked (f : Revision) (laid : Option Revision) (rosters : Vec LevelRoster Global) (rank levels : ℕ) : Type 0 where
  pub graph : laid ≡ Some f
  pub lowest : AreLowest f rosters.items
  pub count : length rosters.items + 1 ≡ rank
  pub room : levels ≤ vec_capacity rosters + 1

abbrev pub invariant-loop-rank : goal.invariant-loop-rank
invariant-loop-rank g l = Ranked l.frozen l.workspace.network.graph l.rosters l.rank l.levels
