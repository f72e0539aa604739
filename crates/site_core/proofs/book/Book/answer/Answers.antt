use Rattle.std.proofs.Common.{subst, IsTrue}
use Rattle.site_history.specs.declared.commands.Command.{Command}
use Rattle.site_history.specs.Acts.{may_have}
use Rattle.site_core.proofs.Keeping.{has_token}
use Rattle.site_core.proofs.book.Book.answer.Goals as goal

pub log_out-requires-clause-some : goal.log_out-requires-clause-some
log_out-requires-clause-some g c =
    let may = subst (λ (command : Command). IsTrue (may_have command c.args.act.author)) c.in-LogsOut.ensures.1 c.args.act.fits in
    rw c.session_token-token.ensures (has_token c.args.act.author may)
