use Rattle.cert_log.proofs.Ordered.{same_levels}
use Rattle.cert_log.proofs.sorted.sort_by_pair.Goals as goal

pub returns-clause-same : goal.returns-clause-same
returns-clause-same c = same_levels _ _ c.sort.ensures.stable
