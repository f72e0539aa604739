use Rattle.exchanges.proofs.Deciding.{listed}
use Rattle.exchanges.proofs.answering.show.Goals as goal

pub returns-in-Ok-clause-ok : goal.returns-in-Ok-clause-ok
returns-in-Ok-clause-ok g c = λ q token moment asks.
    (listed _ _ q token moment _ _ c.in-Ok.ensures.looks c.in-Ok.ensures.cached c.in-Ok.ensures.current asks c.number_in-number.ensures, asks)
