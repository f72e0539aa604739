use Rattle.std.proofs.Common.{refl}
use Rattle.http_pages.specs.Responses.{connection_line}
use Rattle.html_pages.proofs.Inking.{inked_twice}
use Rattle.http_pages.proofs.responses.put_connection.Goals as goal

pub returns : goal.returns
unfolding connection_line
returns c = rw (c.in_ok-put-3.ensures, c.in_ok-put-2.ensures, c.in_ok-put.ensures, c.as_bytes.ensures.value, c.connection_word.ensures) (simp inked_twice refl)
