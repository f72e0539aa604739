use Rattle.std.proofs.Common.{sym}
use Rattle.html_pages.specs.Shown.{reply}
use Rattle.html_pages.proofs.Inking.{inked_nothing, line_more}
use Rattle.html_pages.proofs.lists.put_replies.Goals as goal

pub loop-post-init : goal.loop-post-init
loop-post-init c = inked_nothing c.args.pen.now

pub loop-post-preserved : goal.loop-post-preserved
loop-post-preserved c =
    line_more reply c.args.pen.now c.loop-post.pen c.put_clean_reply.new.pen c.args.posts.now c.loop-post.post-index c.post-item.result c.loop-post-test.true (sym c.post-item.is)
    c.loop-post.invariant c.in_ok-put_clean_reply.ensures
