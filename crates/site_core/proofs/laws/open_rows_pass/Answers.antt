use Rattle.site_core.proofs.RowsOpen.{pass}
use Rattle.site_core.proofs.laws.open_rows_pass.Goals as goal

pub returns : goal.returns
returns c = pass
