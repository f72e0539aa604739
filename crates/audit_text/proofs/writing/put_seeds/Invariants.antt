use Rattle.std.proofs.Common.{◌≡◌, ◌++◌}
use Rattle.frozen.specs.Revision.{certificates}
use Rattle.audit_text.specs.Canonical.{seed_words}
use Rattle.audit_text.specs.inner.Writing.{seeds_below, lines_for}
use Rattle.audit_text.proofs.writing.put_seeds.Given as goal

abbrev pub invariant-loop-number : goal.invariant-loop-number
invariant-loop-number l = l.text.items ≡ l.initial.text.items ++ lines_for (seed_words l.frozen.names) (seeds_below (certificates l.frozen) l.number)
