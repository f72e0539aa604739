-- What the metric reads of a level's roster.
use Rattle.std.specs.Prelude.{ℕ, ◌<◌, All}
use Rattle.trust_types.specs.Lines.{IsNodeAmong}
use Rattle.trust_types.specs.Proven.{Lists}
use Rattle.roster_form.specs.declared.level_rosters.LevelRoster.{LevelRoster}

abbrev pub lists_of : LevelRoster → Lists
lists_of r = record { served = r.served.items; flow = r.flow.items; pass = r.pass.items; full = r.full.items }

-- The lists name accounts of the graph alone.
pub record AreAmong (n : ℕ) (r : Lists) : Type 0 where
  pub givers : All (λ l. IsNodeAmong n l.from) r.flow
  pub takers : All (λ l. l.to < n) r.flow
  pub pass : All (IsNodeAmong n) r.pass
  pub full : All (IsNodeAmong n) r.full
