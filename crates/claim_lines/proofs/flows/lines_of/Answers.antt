use Rattle.std.proofs.Common.{rules}
use Rattle.std.proofs.lemmas.Iterator.{items_from_collect, YieldsList-from_map}
use Rattle.std.proofs.lemmas.Iterator.Consumers.{YieldsList-from_rest, YieldsList-at}
use Rattle.claim_lines.specs.inner.Flows.{line_of}
use Rattle.claim_lines.proofs.flows.lines_of.Goals as goal

pub returns-clause-all : goal.returns-clause-all
returns-clause-all c =
    items_from_collect _ c.collect.ensures.ran (YieldsList-from_map _ line_of (YieldsList-at c.map.ensures.source (YieldsList-from_rest {shows = λ x. x} _ c.into_pairs.ensures.all)) c.map.ensures.closure (λ x r q k. search rules))
