use Rattle.std.proofs.Common.{ap, arith}
use Rattle.trust_types.specs.Kept.{is_article}
use Rattle.postings.proofs.Placing.{counted}
use Rattle.postings.proofs.postings.Postings.article_count.Goals as goal

pub overflow_cast-result : goal.overflow_cast-result
overflow_cast-result c =
    omega (arith, c.self.invariant.few, (counted is_article _ c.args.self.now.posts _ _ (ap (λ posts. posts.posts) c.self.view_is) c.places.ensures c.self.invariant.kept.articles).0)

pub returns : goal.returns
returns c = (counted is_article _ c.args.self.now.posts _ _ (ap (λ posts. posts.posts) c.self.view_is) c.places.ensures c.self.invariant.kept.articles).1
