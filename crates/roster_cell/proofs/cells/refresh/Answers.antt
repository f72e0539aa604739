use Rattle.roster_cell.proofs.Standing.{cached_later, fetched_is}
use Rattle.roster_cell.proofs.cells.refresh.Goals as goal

pub returns-in-Ok-clause-cached : goal.returns-in-Ok-clause-cached
returns-in-Ok-clause-cached g c = (fetched_is _ _ c.fetch.ensures.looks.legal c.in-Ok.ensures.last).1

pub returns-in-Ok-clause-latest : goal.returns-in-Ok-clause-latest
returns-in-Ok-clause-latest g c = (fetched_is _ _ c.fetch.ensures.looks.legal c.in-Ok.ensures.last).0

pub returns-in-Err-clause-cached : goal.returns-in-Err-clause-cached
returns-in-Err-clause-cached g c = cached_later _ _ _ c.fetch.ensures.looks.begins c.number-number.ensures.legal c.requires.cached
