use Rattle.std.proofs.Common.{◌≡◌, ◌++◌}
use Rattle.frozen.specs.Sites.{degree, given}
use Rattle.audit_text.specs.Canonical.{cert_words}
use Rattle.audit_text.specs.inner.Writing.{certs_below, lines_for}
use Rattle.audit_text.proofs.writing.put_certs.Given as goal

abbrev pub invariant-loop-giver : goal.invariant-loop-giver
invariant-loop-giver l = l.text.items ≡ l.initial.text.items ++ lines_for (cert_words l.frozen.names) (certs_below (degree l.frozen.parts) (given l.frozen.parts) l.giver)
