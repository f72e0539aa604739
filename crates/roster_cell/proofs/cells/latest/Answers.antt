use Rattle.std.proofs.Common.{◌∙◌, sym}
use Rattle.roster_cell.proofs.Standing.{cached_later, lent_is_latest}
use Rattle.roster_cell.proofs.cells.latest.Goals as goal

pub returns-then-held-front-clause-latest : goal.returns-then-held-front-clause-latest
returns-then-held-front-clause-latest g c =
    lent_is_latest _ _ c.publication.result c.publication.ensures (cached_later _ _ _ c.news-front.ensures.looks.begins c.number-number.ensures.legal c.requires.cached)
    (sym c.number-held.ensures ∙ (c.if-held-front.true ∙ c.news-front.ensures.shows.1))

pub returns-then-held-front-clause-cached : goal.returns-then-held-front-clause-cached
returns-then-held-front-clause-cached g c = cached_later _ _ _ c.news-front.ensures.looks.begins c.number-number.ensures.legal c.requires.cached

pub returns-else-held-front-clause-cached : goal.returns-else-held-front-clause-cached
returns-else-held-front-clause-cached g c = cached_later _ _ _ c.news-front.ensures.looks.begins c.number-number.ensures.legal c.requires.cached
