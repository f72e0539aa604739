use Rattle.std.proofs.Common.{refl}
use Rattle.script_text.proofs.forms.article.Goals as goal

pub returns : goal.returns
returns c = rw (c.act.ensures refl, c.in_ok-of.ensures, c.in_ok-author.ensures.words, c.in_ok-title.ensures, c.in_ok-text.ensures) refl
