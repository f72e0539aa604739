use Rattle.site_records.proofs.Whole.{one_record}
use Rattle.site_records.proofs.laws.no_row_of_two_records.Goals as goal

pub returns : goal.returns
returns c = one_record
