use Rattle.std.proofs.Common.{refl, sym}
use Rattle.script_text.proofs.forms.reply.Goals as goal

pub returns : goal.returns
returns c = rw (c.act.ensures refl, c.in_ok-of.ensures, c.in_ok-author.ensures.words, sym c.in_ok-article.ensures, c.in_ok-text.ensures) refl
