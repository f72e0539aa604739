use Rattle.std.proofs.Common.{ap, subst, sym, ◌∙◌, ◌<◌, length, slice_get}
use Rattle.std.specs.List.{filter}
use Rattle.postings.specs.Posts.{is_diary_of}
use Rattle.postings.proofs.Placing.{read}
use Rattle.postings.proofs.postings.Postings.diary.Goals as goal

pub post_at-requires-clause-inside : goal.post_at-requires-clause-inside
post_at-requires-clause-inside c =
    (read (is_diary_of c.author.inside.0) _ c.args.self.now.posts _ _ _ c.args.n (ap (λ posts. posts.posts) c.self.view_is) c.deref.ensures.value c.at.ensures
    (c.self.invariant.kept.diaries c.author.inside.0)
    (subst (λ author. c.args.n < length (filter (is_diary_of author) c.args.self.now.posts)) (sym c.author.view_is) c.requires)).0

pub returns : goal.returns
returns c =
    c.post_at.ensures
    ∙ (read (is_diary_of c.author.inside.0) _ c.args.self.now.posts _ _ _ c.args.n (ap (λ posts. posts.posts) c.self.view_is) c.deref.ensures.value c.at.ensures
    (c.self.invariant.kept.diaries c.author.inside.0)
    (subst (λ author. c.args.n < length (filter (is_diary_of author) c.args.self.now.posts)) (sym c.author.view_is) c.requires)).1
    ∙ ap (λ author. slice_get (filter (is_diary_of author) c.args.self.now.posts) c.args.n) c.author.view_is
