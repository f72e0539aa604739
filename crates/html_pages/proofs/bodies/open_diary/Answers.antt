use Rattle.std.proofs.Common.{refl}
use Rattle.html_pages.specs.Pages.{opening}
use Rattle.html_pages.proofs.Inking.{inked_twice}
use Rattle.html_pages.proofs.bodies.open_diary.Goals as goal

pub returns : goal.returns
unfolding opening
returns c =
    rw (c.in_ok-put-3.ensures, c.in_ok-put_diary_title-2.ensures, c.in_ok-put-2.ensures, c.in_ok-put_diary_title.ensures, c.in_ok-put.ensures) (simp inked_twice refl)
