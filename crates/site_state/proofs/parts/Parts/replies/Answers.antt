use Rattle.std.proofs.Common.{◌≡◌, sym, arith, length}
use Rattle.cert_book.specs.Books.{book}
use Rattle.postings.specs.Posts.{replies_to, is_reply_to}
use Rattle.site_history.specs.Views.{post_of}
use Rattle.site_state.specs.inner.Parts.{site_in, IsPostedBy}
use Rattle.site_state.proofs.Listing.{one_more, all_shown, enough, among}
use Rattle.site_state.proofs.parts.Parts.replies.Goals as goal

pub post-requires : goal.post-requires
post-requires c = among (IsPostedBy (length (book c.args.self.now.certs).names)) (is_reply_to c.args.no) c.args.self.now.posts.posts c.loop-i.i c.reply.result.now c.requires c.reply.ensures

pub loop-i-preserved : goal.loop-i-preserved
loop-i-preserved c =
    one_more (post_of (site_in c.args.self.now)) (replies_to c.args.self.now.posts.posts c.args.no) c.loop-i.i c.reply.result.now c.in_ok-post.field-0
    c.loop-i.posts.items c.push.new.self.items c.loop-i.invariant (sym c.reply.ensures) c.in_ok-post.ensures c.in_ok-push.ensures.items

pub returns : goal.returns
returns c =
    let end : c.loop-i.i ≡ c.min-shown.result = omega (arith, c.loop-i-test.false, c.loop-i.auto.i-end) in
    all_shown (post_of (site_in c.args.self.now)) (replies_to c.args.self.now.posts.posts c.args.no) 200 c.loop-i.i c.loop-i.posts.items
    (enough _ _ 200 c.min-shown.result c.loop-i.i end c.min-shown.ensures c.reply_count.ensures) c.loop-i.invariant
