-- The state of a site, as contracts see it.
use Rattle.std.specs.Prelude.{Option}
use Rattle.trust_types.specs.declared.records.Record.{Record}
use Rattle.site_history.specs.Histories.{History}

-- The history, and the record for which there is room.
pub record Known : Type 0 where
  pub history : History
  pub room : Option Record
