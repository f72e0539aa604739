use Rattle.site_records.proofs.Whole.{told_record, told_moment, told_row, told_none, told_exact}
use Rattle.site_records.proofs.reading.read_row.Goals as goal

pub returns-clause-record : goal.returns-clause-record
returns-clause-record c = told_record c.args.bytes.now c.read.result c.read.ensures

pub returns-clause-row : goal.returns-clause-row
returns-clause-row c = told_row c.args.bytes.now c.read.result c.read.ensures

pub returns-clause-none : goal.returns-clause-none
returns-clause-none c = told_none c.args.bytes.now c.read.result c.read.ensures

pub returns-clause-exact : goal.returns-clause-exact
returns-clause-exact c = told_exact c.args.bytes.now c.read.result c.read.ensures

pub returns-clause-moment : goal.returns-clause-moment
returns-clause-moment c = told_moment c.args.bytes.now c.read.result c.read.ensures
