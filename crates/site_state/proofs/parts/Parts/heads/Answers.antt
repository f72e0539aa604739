use Rattle.std.proofs.Common.{◌≡◌, ◌<◌, ◌-◌, refl, arith, length, reverse}
use Rattle.std.specs.List.{enumerate_from}
use Rattle.std.proofs.lemmas.List.{length-reverse}
use Rattle.std.proofs.lemmas.List.FromFn.{length-enumerate_from}
use Rattle.postings.specs.Posts.{articles}
use Rattle.site_history.specs.Views.{head_of}
use Rattle.site_state.specs.inner.Parts.{site_in}
use Rattle.site_state.proofs.Listing.{newer_head, all_shown, enough, below_least}
use Rattle.site_state.proofs.parts.Parts.heads.Goals as goal

pub loop-i-preserved : goal.loop-i-preserved
loop-i-preserved c =
    let within : c.loop-i.i < c.article_count-count.result = below_least _ 20 c.loop-i.i c.min-shown.result c.min-shown.ensures c.loop-i-test.true in
    newer_head (site_in c.args.self.now) (articles c.args.self.now.posts.posts) c.article_count-count.result c.loop-i.i (c.article_count-count.result - 1 - c.loop-i.i)
    c.in_ok-head.field-0 c.loop-i.heads.items c.push.new.self.items c.article_count-count.ensures within refl c.in_ok-head.ensures c.loop-i.invariant c.in_ok-push.ensures.items

pub returns : goal.returns
returns c =
    let end : c.loop-i.i ≡ c.min-shown.result = omega (arith, c.loop-i-test.false, c.loop-i.auto.i-end) in
    let long : c.article_count-count.result ≡ length (reverse (enumerate_from 0 (articles c.args.self.now.posts.posts))) =
    omega (arith, c.article_count-count.ensures, length-reverse (enumerate_from 0 (articles c.args.self.now.posts.posts)), length-enumerate_from 0 (articles c.args.self.now.posts.posts)) in
    all_shown (head_of (site_in c.args.self.now)) (reverse (enumerate_from 0 (articles c.args.self.now.posts.posts))) 20 c.loop-i.i c.loop-i.heads.items
    (enough _ _ 20 c.min-shown.result c.loop-i.i end c.min-shown.ensures long) c.loop-i.invariant
