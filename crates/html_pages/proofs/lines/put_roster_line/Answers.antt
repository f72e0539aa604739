use Rattle.std.proofs.Common.{refl}
use Rattle.html_pages.specs.Lines.{roster_line}
use Rattle.html_pages.proofs.Inking.{inked_twice}
use Rattle.html_pages.proofs.lines.put_roster_line.Goals as goal

pub returns : goal.returns
unfolding roster_line
returns c = rw (c.in_ok-put-5.ensures, c.in_ok-put-4.ensures, c.in_ok-put-3.ensures, c.in_ok-put-2.ensures, c.in_ok-put.ensures, c.bytes.ensures.all, c.bytes-2.ensures.all) (simp inked_twice refl)
