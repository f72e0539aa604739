use Rattle.cert_log.proofs.Standing.{standing_mapped}
use Rattle.cert_log.proofs.levels.certs_of.Goals as goal

pub returns : goal.returns
returns c = λ cs are. standing_mapped c.args.levels cs _ c.in_ok-listed.ensures.all c.in_ok-listed.ensures.rises are
