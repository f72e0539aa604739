use Rattle.std.proofs.Common.{refl}
use Rattle.http_pages.specs.Responses.{type_line}
use Rattle.html_pages.proofs.Inking.{inked_twice}
use Rattle.http_pages.proofs.responses.put_type.Goals as goal

pub returns : goal.returns
unfolding type_line
returns c = rw (c.in_ok-put-3.ensures, c.in_ok-put-2.ensures, c.in_ok-put.ensures, c.as_bytes.ensures.value, c.kind_word.ensures) (simp inked_twice refl)
