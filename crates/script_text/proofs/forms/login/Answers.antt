use Rattle.std.proofs.Common.{refl, sym}
use Rattle.script_text.proofs.forms.login.Goals as goal

pub returns : goal.returns
returns c = rw (c.act.ensures refl, c.in_ok-name-2.ensures, c.in_ok-name.ensures.words, c.in_ok-password.ensures, sym c.in_ok-token.ensures, c.proof_by-proof.ensures, c.secret_by.ensures, c.as_str.ensures.bytes) refl
