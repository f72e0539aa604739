use Rattle.std.proofs.Common.{sym}
use Rattle.markup.specs.inner.Seen.{seen}
use Rattle.markup.proofs.Tagging.{found-shorter}
use Rattle.markup.proofs.cleaning.step.Goals as goal

pub returns-then-branch-clause-shorter : goal.returns-then-branch-clause-shorter
returns-then-branch-clause-shorter c = found-shorter c.args.text.now (seen c.in-Some.found) (sym c.in-Some.ensures)
