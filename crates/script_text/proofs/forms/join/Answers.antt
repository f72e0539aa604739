use Rattle.std.proofs.Common.{refl}
use Rattle.script_text.proofs.forms.join.Goals as goal

pub returns : goal.returns
returns c = rw (c.act.ensures refl, c.in_ok-name-2.ensures, c.in_ok-name.ensures.words, c.in_ok-secret.ensures) refl
