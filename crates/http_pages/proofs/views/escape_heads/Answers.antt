use Rattle.std.proofs.Common.{sym, arith}
use Rattle.http_pages.specs.Views.{headline_of}
use Rattle.html_pages.specs.Shown.{headline}
use Rattle.http_pages.proofs.Making.{made_more, made_all}
use Rattle.http_pages.proofs.views.escape_heads.Goals as goal

pub loop-head-preserved : goal.loop-head-preserved
loop-head-preserved c =
    made_more headline headline_of c.loop-head.articles.items c.push.new.self.items c.args.heads.now c.loop-head.head-index c.head-item.result
    c.in_ok-escape_head.field-0 c.loop-head-test.true (sym c.head-item.is) c.loop-head.invariant c.in_ok-push.ensures.items c.in_ok-escape_head.ensures

pub returns : goal.returns
returns c =
    made_all headline headline_of c.loop-head.articles.items c.args.heads.now c.loop-head.head-index
    (omega (arith, c.loop-head-test.false, c.loop-head.auto.head-index-end)) c.loop-head.invariant
