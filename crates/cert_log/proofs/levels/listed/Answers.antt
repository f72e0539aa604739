use Rattle.std.proofs.Common.{rules, tests}
use Rattle.std.proofs.lemmas.Iterator.{YieldsList-from_map, items_from_collect}
use Rattle.std.proofs.lemmas.Iterator.Consumers.{YieldsList-at, YieldsList-from_rest}
use Rattle.cert_log.specs.inner.Levels.{cert_at}
use Rattle.cert_log.proofs.levels.listed.Goals as goal

pub returns-clause-all : goal.returns-clause-all
returns-clause-all c =
    items_from_collect _ c.collect.ensures.ran
    (YieldsList-from_map _ cert_at (YieldsList-at c.map.ensures.source (YieldsList-from_rest c.args.levels c.into_pairs.ensures.all)) c.map.ensures.closure (λ x r q k. search (rules, tests)))
