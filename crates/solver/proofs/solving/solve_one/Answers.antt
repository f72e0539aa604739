use Rattle.std.proofs.lemmas.Result.{IfOk-weaker}
use Rattle.roster_form.specs.declared.level_rosters.LevelRoster.{LevelRoster}
use Rattle.roster_form.specs.LevelRosters.{lists_of}
use Rattle.roster_form.specs.Candidates.{IsSound, IsRosterFor}
use Rattle.roster_form.proofs.Sound.{sound}
use Rattle.solver.proofs.solving.solve_one.Goals as goal

pub returns-clause-sound : goal.returns-clause-sound
returns-clause-sound c =
    IfOk-weaker c.solve_once.result (IsRosterFor c.args.frozen.now c.args.level) (λ (r : LevelRoster). IsSound c.args.frozen.now c.args.level (lists_of r))
    (λ r is. sound c.args.frozen.now c.args.level (lists_of r) is.proven is.among) c.solve_once.ensures
