use Rattle.std.proofs.Common.{sym}
use Rattle.html_pages.specs.Shown.{headline}
use Rattle.html_pages.proofs.Inking.{inked_nothing, line_more}
use Rattle.html_pages.proofs.lists.put_headline_lines.Goals as goal

pub loop-article-init : goal.loop-article-init
loop-article-init c = inked_nothing c.args.pen.now

pub loop-article-preserved : goal.loop-article-preserved
loop-article-preserved c =
    line_more headline c.args.pen.now c.loop-article.pen c.put_headline.new.pen c.args.articles.now c.loop-article.article-index c.article-item.result c.loop-article-test.true (sym c.article-item.is)
    c.loop-article.invariant c.in_ok-put_headline.ensures
