use Rattle.std.proofs.Common.{refl, append_assoc}
use Rattle.html_pages.specs.Pages.{page, no_roster}
use Rattle.html_pages.proofs.Inking.{inked_twice}
use Rattle.html_pages.proofs.bodies.put_no_roster.Goals as goal

pub returns : goal.returns
unfolding page no_roster
returns c = rw (c.in_ok-close_page.ensures, c.in_ok-put_paragraph.ensures, c.in_ok-open_page.ensures, c.as_bytes.ensures.value, c.name.ensures) (simp (inked_twice, append_assoc) refl)
