use Rattle.std.proofs.Common.{rules}
use Rattle.serve_words.proofs.Parting.{parted}
use Rattle.serve_words.proofs.tables.at_comma.Goals as goal

pub returns-clause-parts : goal.returns-clause-parts
returns-clause-parts c = parted c.args.text.now c.split_once.result (search rules)
