use Rattle.workers.proofs.Rounding.{round_later}
use Rattle.workers.proofs.rounds.work_round.Goals as goal

pub returns-clause-site : goal.returns-clause-site
returns-clause-site g c = (round_later _ _ c.freeze_and_solve.result c.freeze_and_solve.ensures.came).0

pub returns-clause-begins : goal.returns-clause-begins
returns-clause-begins g c = (round_later _ _ c.freeze_and_solve.result c.freeze_and_solve.ensures.came).1
