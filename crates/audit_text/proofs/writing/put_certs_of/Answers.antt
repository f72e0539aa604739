use Rattle.std.proofs.Common.{refl}
use Rattle.frozen.specs.Sites.{given}
use Rattle.audit_text.proofs.Written.{given_step}
use Rattle.audit_text.proofs.writing.put_certs_of.Goals as goal

pub loop-i-preserved : goal.loop-i-preserved
loop-i-preserved c =
    given_step c.args.frozen.now.names _ c.args.text.now.items _ _ (given c.args.frozen.now.parts) c.args.giver c.loop-i.i _ refl c.given.ensures c.loop-i.invariant c.in_ok-put_cert.ensures
