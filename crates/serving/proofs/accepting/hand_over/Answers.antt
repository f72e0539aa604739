use Rattle.roster_cell.proofs.Standing.{cached_later}
use Rattle.serving.proofs.accepting.hand_over.Goals as goal

pub returns-then-not-started-clause-cached : goal.returns-then-not-started-clause-cached
returns-then-not-started-clause-cached g c = cached_later _ _ _ c.work_round.ensures.begins c.number-number.ensures.legal c.queue_or_serve.ensures.cached
