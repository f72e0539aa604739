use Rattle.std.proofs.Common.{sym, ◌∙◌, arith}
use Rattle.site_text.proofs.Heading.{head-count, head-behind}
use Rattle.site_text.proofs.reading.read_head.Goals as goal

pub returns-clause-left : goal.returns-clause-left
returns-clause-left c = c.in_ok-levels.ensures.left ∙ sym (head-behind _ _ _ c.in-Some.ensures.line)

pub returns-clause-number : goal.returns-clause-number
returns-clause-number c = omega (arith, c.in_ok-levels.ensures.number, c.in-Some.ensures.number, c.requires.start, head-count _ _ _ c.in-Some.ensures.line)
