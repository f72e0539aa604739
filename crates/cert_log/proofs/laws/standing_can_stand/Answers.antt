use Rattle.cert_log.proofs.Standing.{can_stand}
use Rattle.cert_log.proofs.laws.standing_can_stand.Goals as goal

pub returns : goal.returns
returns c = can_stand
