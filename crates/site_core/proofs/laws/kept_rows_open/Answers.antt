use Rattle.site_core.proofs.RowsOpen.{kept_rows}
use Rattle.site_core.proofs.laws.kept_rows_open.Goals as goal

pub returns : goal.returns
returns c = kept_rows
