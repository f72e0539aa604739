use Rattle.std.proofs.Common.{ap, arith, ◌∙◌}
use Rattle.postings.specs.Posts.{is_project}
use Rattle.postings.proofs.Placing.{counted, as_many_names}
use Rattle.postings.proofs.postings.Postings.project_count.Goals as goal

pub overflow_cast-result : goal.overflow_cast-result
overflow_cast-result c =
    omega (arith, c.self.invariant.few, (counted is_project _ c.args.self.now.posts _ _ (ap (λ posts. posts.posts) c.self.view_is) c.places.ensures c.self.invariant.kept.projects).0)

pub returns : goal.returns
returns c =
    (counted is_project _ c.args.self.now.posts _ _ (ap (λ posts. posts.posts) c.self.view_is) c.places.ensures c.self.invariant.kept.projects).1
    ∙ as_many_names c.args.self.now.posts
