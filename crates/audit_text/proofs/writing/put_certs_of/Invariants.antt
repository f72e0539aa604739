use Rattle.std.proofs.Common.{◌≡◌, ◌++◌}
use Rattle.frozen.specs.Sites.{given}
use Rattle.audit_text.specs.Canonical.{cert_words}
use Rattle.audit_text.specs.inner.Writing.{first_given, lines_for}
use Rattle.audit_text.proofs.writing.put_certs_of.Given as goal

abbrev pub invariant-loop-i : goal.invariant-loop-i
invariant-loop-i l = l.text.items ≡ l.initial.text.items ++ lines_for (cert_words l.frozen.names) (first_given (given l.frozen.parts) l.giver l.i)
