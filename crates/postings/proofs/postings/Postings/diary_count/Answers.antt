use Rattle.std.proofs.Common.{ap, arith, ◌∙◌, length}
use Rattle.std.specs.List.{filter}
use Rattle.postings.specs.Posts.{is_diary_of}
use Rattle.postings.proofs.Placing.{counted}
use Rattle.postings.proofs.postings.Postings.diary_count.Goals as goal

pub overflow_cast-result : goal.overflow_cast-result
overflow_cast-result c =
    omega (arith, c.self.invariant.few, (counted (is_diary_of c.author.inside.0) _ c.args.self.now.posts _ _ (ap (λ posts. posts.posts) c.self.view_is) c.at.ensures (c.self.invariant.kept.diaries c.author.inside.0)).0)

pub returns : goal.returns
returns c = (counted (is_diary_of c.author.inside.0) _ c.args.self.now.posts _ _ (ap (λ posts. posts.posts) c.self.view_is) c.at.ensures (c.self.invariant.kept.diaries c.author.inside.0)).1
    ∙ ap (λ author. length (filter (is_diary_of author) c.args.self.now.posts)) c.author.view_is
