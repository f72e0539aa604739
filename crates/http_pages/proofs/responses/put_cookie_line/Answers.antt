use Rattle.std.proofs.Common.{refl}
use Rattle.http_pages.specs.Responses.{cookie_line}
use Rattle.html_pages.proofs.Inking.{inked_twice}
use Rattle.http_pages.proofs.responses.put_cookie_line.Goals as goal

pub returns : goal.returns
unfolding cookie_line
returns c = rw (c.in_ok-put-2.ensures, c.in_ok-put_cookie.ensures, c.in_ok-put.ensures) (simp inked_twice refl)
