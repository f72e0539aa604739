use Rattle.std.proofs.Common.{◌∙◌, ap, ◌++◌}
use Rattle.frozen.specs.Sites.{degree, given}
use Rattle.audit_text.specs.Canonical.{cert_words}
use Rattle.audit_text.specs.inner.Writing.{first_given, lines_for}
use Rattle.audit_text.proofs.Written.{more_certs}
use Rattle.audit_text.proofs.writing.put_certs.Goals as goal

pub loop-giver-preserved : goal.loop-giver-preserved
loop-giver-preserved c =
    c.in_ok-put_certs_of.ensures
    ∙ ap (λ text. text ++ lines_for (cert_words c.args.frozen.now.names) (first_given (given c.args.frozen.now.parts) c.loop-giver.giver (degree c.args.frozen.now.parts c.loop-giver.giver))) c.loop-giver.invariant
    ∙ more_certs (cert_words c.args.frozen.now.names) c.args.text.now.items (degree c.args.frozen.now.parts) (given c.args.frozen.now.parts) c.loop-giver.giver
