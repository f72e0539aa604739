use Rattle.serving.proofs.Causes.{ends_well}
use Rattle.serving.proofs.laws.ends_well_without_faults.Goals as goal

pub returns : goal.returns
returns g c = ends_well _ _ c.open_rows_pass.ensures
