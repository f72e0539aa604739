use Rattle.std.proofs.Common.{refl, append_assoc}
use Rattle.html_pages.specs.Pages.{page, person_page}
use Rattle.html_pages.proofs.Inking.{inked_twice}
use Rattle.html_pages.proofs.bodies.put_person.Goals as goal

pub returns : goal.returns
unfolding page person_page
returns c = rw (c.in_ok-close_page.ensures, c.in_ok-put_certs-2.ensures, c.in_ok-put_heading-2.ensures, c.in_ok-put_certs.ensures, c.in_ok-put_heading.ensures, c.in_ok-put_level_line.ensures, c.in_ok-open_page.ensures, c.bytes.ensures.all) (simp (inked_twice, append_assoc) refl)
