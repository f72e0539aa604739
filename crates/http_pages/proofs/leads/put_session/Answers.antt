use Rattle.std.proofs.Common.{refl}
use Rattle.html_pages.proofs.Inking.{inked_twice}
use Rattle.http_pages.proofs.leads.put_session.Goals as goal

pub returns : goal.returns
returns c = rw (c.in_ok-put-5.ensures, c.in_ok-put-4.ensures, c.in_ok-put-3.ensures, c.in_ok-put-2.ensures, c.in_ok-put.ensures, c.bytes.ensures.all, c.digits_of.ensures) (simp inked_twice refl)
