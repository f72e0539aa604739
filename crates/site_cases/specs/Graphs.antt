-- Graphs that were frozen of a site.
use Rattle.frozen.specs.Revision.{Revision}
use Rattle.site_history.specs.Histories.{History, records}
use Rattle.site_history.specs.Legal.{IsOfPast}

-- The graph is one of the history's past.
abbrev pub IsPastGraph : History → Revision → Type 0
IsPastGraph h f = IsOfPast h.opening (records h) f
