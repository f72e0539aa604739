use Rattle.std.proofs.Common.{◌≡◌}
use Rattle.site_core.specs.inner.Opening.{HasRead}
use Rattle.site_core.proofs.opening.open_rows.Given as goal

-- The site was opened with the rows that were read.
abbrev pub invariant-loop-n : goal.invariant-loop-n
invariant-loop-n g l = record {
  opening : l.state.history.opening ≡ l.initial.state.history.opening;
  read : HasRead (g.K.Keeper.rows l.keeper) l.n l.state.history;
  rows : g.K.Keeper.rows l.keeper ≡ g.K.Keeper.rows l.initial.keeper;
  faults : g.K.Keeper.faults l.keeper ≡ g.K.Keeper.faults l.initial.keeper;
}
