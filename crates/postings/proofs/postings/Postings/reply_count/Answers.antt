use Rattle.std.proofs.Common.{ap, arith}
use Rattle.postings.specs.Posts.{is_reply_to}
use Rattle.postings.proofs.Placing.{counted}
use Rattle.postings.proofs.postings.Postings.reply_count.Goals as goal

pub overflow_cast-result : goal.overflow_cast-result
overflow_cast-result c =
    omega (arith, c.self.invariant.few, (counted (is_reply_to c.args.n) _ c.args.self.now.posts _ _ (ap (λ posts. posts.posts) c.self.view_is) c.at.ensures (c.self.invariant.kept.replies c.args.n)).0)

pub returns : goal.returns
returns c = (counted (is_reply_to c.args.n) _ c.args.self.now.posts _ _ (ap (λ posts. posts.posts) c.self.view_is) c.at.ensures (c.self.invariant.kept.replies c.args.n)).1
