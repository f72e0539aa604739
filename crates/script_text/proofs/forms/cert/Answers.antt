use Rattle.std.proofs.Common.{refl, sym}
use Rattle.script_text.proofs.forms.cert.Goals as goal

pub returns : goal.returns
returns c = rw (c.act.ensures refl, c.in_ok-of.ensures, c.in_ok-subject.ensures, c.in_ok-giver.ensures.words, sym c.in_ok-level.ensures) refl
