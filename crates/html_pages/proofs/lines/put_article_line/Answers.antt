use Rattle.std.proofs.Common.{refl}
use Rattle.html_pages.specs.Lines.{article_line}
use Rattle.html_pages.proofs.Inking.{inked_twice}
use Rattle.html_pages.proofs.lines.put_article_line.Goals as goal

pub returns : goal.returns
unfolding article_line
returns c = rw (c.in_ok-put-8.ensures, c.in_ok-put-7.ensures, c.in_ok-put-6.ensures, c.in_ok-put-5.ensures, c.in_ok-put-4.ensures, c.in_ok-put-3.ensures, c.in_ok-put-2.ensures, c.in_ok-put_number.ensures, c.in_ok-put.ensures, c.bytes.ensures.all, c.bytes-2.ensures.all) (simp inked_twice refl)
