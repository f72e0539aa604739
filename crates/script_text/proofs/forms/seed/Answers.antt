use Rattle.std.proofs.Common.{refl}
use Rattle.script_text.proofs.forms.seed.Goals as goal

pub returns : goal.returns
returns c = rw (c.act.ensures refl, c.in_ok-subject.ensures, c.in_ok-one.ensures.word) refl
