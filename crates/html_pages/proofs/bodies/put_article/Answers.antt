use Rattle.std.proofs.Common.{refl, append_assoc}
use Rattle.html_pages.specs.Pages.{page, article_page}
use Rattle.html_pages.proofs.Inking.{inked_twice}
use Rattle.html_pages.proofs.bodies.put_article.Goals as goal

pub returns : goal.returns
unfolding page article_page
returns c = rw (c.in_ok-close_page.ensures, c.in_ok-put_replies.ensures, c.in_ok-put_written.ensures, c.in_ok-open_page.ensures, c.bytes.ensures.all) (simp (inked_twice, append_assoc) refl)
