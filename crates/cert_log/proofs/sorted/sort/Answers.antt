use Rattle.std.proofs.Common.{rules}
use Rattle.std.proofs.lemmas.List.Sorted.{answers_always}
use Rattle.trust_types.specs.declared.graphs.Cert.{Cert}
use Rattle.cert_log.proofs.sorted.sort.Goals as goal

pub returns-clause-rises : goal.returns-clause-rises
returns-clause-rises c = c.in_ok-sort_by_key.ensures.sorted (λ (x : Cert). (x.from, x.to)) (answers_always _ _ _ (λ f a r q k. search rules))

pub returns-clause-stable : goal.returns-clause-stable
returns-clause-stable c = c.in_ok-sort_by_key.ensures.stable (λ (x : Cert). (x.from, x.to)) (answers_always _ _ _ (λ f a r q k. search rules))
