use Rattle.std.proofs.Common.{◌≡◌, ◌<◌, ◌-◌, sym, refl, arith, length, reverse}
use Rattle.std.proofs.lemmas.List.{length-reverse}
use Rattle.cert_book.specs.Books.{book}
use Rattle.postings.specs.Posts.{diary_of, is_diary_of}
use Rattle.site_history.specs.Views.{post_of}
use Rattle.site_state.specs.inner.Parts.{site_in, IsPostedBy}
use Rattle.site_state.proofs.Listing.{one_newer, all_shown, enough, among, below_least}
use Rattle.site_state.proofs.parts.Parts.entries.Goals as goal

pub post-requires : goal.post-requires
post-requires c = among (IsPostedBy (length (book c.args.self.now.certs).names)) (is_diary_of c.args.account) c.args.self.now.posts.posts _ c.diary.result.now c.requires c.diary.ensures

pub loop-i-preserved : goal.loop-i-preserved
loop-i-preserved c =
    let within : c.loop-i.i < c.diary_count-count.result = below_least _ 20 c.loop-i.i c.min-shown.result c.min-shown.ensures c.loop-i-test.true in
    one_newer (post_of (site_in c.args.self.now)) (diary_of c.args.self.now.posts.posts c.args.account) c.diary_count-count.result c.loop-i.i (c.diary_count-count.result - 1 - c.loop-i.i)
    c.diary.result.now c.in_ok-post.field-0 c.loop-i.posts.items c.push.new.self.items c.diary_count-count.ensures within refl (sym c.diary.ensures) c.in_ok-post.ensures
    c.loop-i.invariant c.in_ok-push.ensures.items

pub returns : goal.returns
returns c =
    let end : c.loop-i.i ≡ c.min-shown.result = omega (arith, c.loop-i-test.false, c.loop-i.auto.i-end) in
    let long : c.diary_count-count.result ≡ length (reverse (diary_of c.args.self.now.posts.posts c.args.account)) = omega (arith, c.diary_count-count.ensures, length-reverse (diary_of c.args.self.now.posts.posts c.args.account)) in
    all_shown (post_of (site_in c.args.self.now)) (reverse (diary_of c.args.self.now.posts.posts c.args.account)) 20 c.loop-i.i c.loop-i.posts.items
    (enough _ _ 20 c.min-shown.result c.loop-i.i end c.min-shown.ensures long) c.loop-i.invariant
