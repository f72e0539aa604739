use Rattle.std.proofs.Common.{length}
use Rattle.wide_solver.proofs.halving.+fn-rosters_from-join+arg2+fn-rosters_from-join+arg3+rosters_from.Given as goal

abbrev pub decreases-join+arg2 : goal.decreases-join+arg2
decreases-join+arg2 g l = length l.lower.now

abbrev pub decreases-join+arg3 : goal.decreases-join+arg3
decreases-join+arg3 g l = length l.upper.now

abbrev pub decreases-rosters_from : goal.decreases-rosters_from
decreases-rosters_from g l = length l.workspaces.now
