use Rattle.std.proofs.Common.{arith}
use Rattle.audit_text.proofs.Written.{all_named}
use Rattle.audit_text.proofs.writing.put_accounts.Goals as goal

pub returns-clause-named : goal.returns-clause-named
returns-clause-named c = all_named c.args.frozen.now.names c.loop-account.account (omega (arith, c.accounts-account-end.ensures.named)) c.loop-account.invariant.named
