use Rattle.std.proofs.Common.{ap, ◌∙◌}
use Rattle.postings.specs.Posts.{is_reply_to}
use Rattle.postings.proofs.Placing.{read}
use Rattle.postings.proofs.postings.Postings.reply.Goals as goal

pub post_at-requires-clause-inside : goal.post_at-requires-clause-inside
post_at-requires-clause-inside c =
    (read (is_reply_to c.args.n) _ c.args.self.now.posts _ _ _ c.args.i (ap (λ posts. posts.posts) c.self.view_is) c.deref.ensures.value c.at.ensures (c.self.invariant.kept.replies c.args.n) c.requires).0

pub returns : goal.returns
returns c =
    c.post_at.ensures
    ∙ (read (is_reply_to c.args.n) _ c.args.self.now.posts _ _ _ c.args.i (ap (λ posts. posts.posts) c.self.view_is) c.deref.ensures.value c.at.ensures (c.self.invariant.kept.replies c.args.n) c.requires).1
