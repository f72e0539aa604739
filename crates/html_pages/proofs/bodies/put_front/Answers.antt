use Rattle.std.proofs.Common.{refl, append_assoc}
use Rattle.html_pages.specs.Pages.{page, front_page}
use Rattle.html_pages.proofs.Inking.{inked_twice}
use Rattle.html_pages.proofs.bodies.put_front.Goals as goal

pub returns : goal.returns
unfolding page front_page
returns c = rw (c.in_ok-close_page.ensures, c.in_ok-put_headlines.ensures, c.in_ok-open_page.ensures) (simp (inked_twice, append_assoc) refl)
