use Rattle.std.proofs.Common.{sym, arith}
use Rattle.markup.specs.Cleaning.{cleaned}
use Rattle.http_pages.proofs.Making.{made_more, made_all}
use Rattle.http_pages.proofs.views.clean_posts.Goals as goal

pub loop-post-preserved : goal.loop-post-preserved
loop-post-preserved c = λ lines.
    made_more (λ post. lines post.author post.moment post.html) (λ post. lines post.author post.moment (cleaned post.text)) c.loop-post.clean.items
    c.push.new.self.items c.args.posts.now c.loop-post.post-index c.post-item.result c.in_ok-clean_post.field-0 c.loop-post-test.true (sym c.post-item.is)
    (c.loop-post.invariant lines) c.in_ok-push.ensures.items
    (λ i. lines (c.in_ok-clean_post.ensures.author i) (c.in_ok-clean_post.ensures.moment i) (c.in_ok-clean_post.ensures.html i))

pub returns : goal.returns
returns c = λ lines.
    made_all (λ post. lines post.author post.moment post.html) (λ post. lines post.author post.moment (cleaned post.text)) c.loop-post.clean.items
    c.args.posts.now c.loop-post.post-index (omega (arith, c.loop-post-test.false, c.loop-post.auto.post-index-end)) (c.loop-post.invariant lines)
