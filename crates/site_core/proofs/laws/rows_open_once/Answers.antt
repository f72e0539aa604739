use Rattle.site_core.proofs.RowsOpen.{once}
use Rattle.site_core.proofs.laws.rows_open_once.Goals as goal

pub returns : goal.returns
returns c = once
