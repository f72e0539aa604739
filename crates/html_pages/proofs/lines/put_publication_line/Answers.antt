use Rattle.std.proofs.Common.{refl}
use Rattle.html_pages.specs.Lines.{publication_line}
use Rattle.html_pages.proofs.Inking.{inked_twice}
use Rattle.html_pages.proofs.lines.put_publication_line.Goals as goal

pub returns : goal.returns
unfolding publication_line
returns c = rw (c.in_ok-put-3.ensures, c.in_ok-put_number-2.ensures, c.in_ok-put-2.ensures, c.in_ok-put_number.ensures, c.in_ok-put.ensures) (simp inked_twice refl)
