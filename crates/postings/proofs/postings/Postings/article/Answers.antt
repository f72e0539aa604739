use Rattle.std.proofs.Common.{ap, ◌∙◌}
use Rattle.trust_types.specs.Kept.{is_article}
use Rattle.postings.proofs.Placing.{read}
use Rattle.postings.proofs.postings.Postings.article.Goals as goal

pub post_at-requires-clause-inside : goal.post_at-requires-clause-inside
post_at-requires-clause-inside c =
    (read is_article _ c.args.self.now.posts _ _ _ c.args.n (ap (λ posts. posts.posts) c.self.view_is) c.deref.ensures.value c.places.ensures c.self.invariant.kept.articles c.requires).0

pub returns : goal.returns
returns c =
    c.post_at.ensures
    ∙ (read is_article _ c.args.self.now.posts _ _ _ c.args.n (ap (λ posts. posts.posts) c.self.view_is) c.deref.ensures.value c.places.ensures c.self.invariant.kept.articles c.requires).1
