use Rattle.std.proofs.Common.{rules}
use Rattle.trust_types.specs.declared.accounts.Node.TheVariants.{Account}
use Rattle.split_flow.specs.Split.{InHalf}
use Rattle.flow_engine.specs.inner.Reached.{IsClosed}
use Rattle.flow_engine.proofs.Closing.{no_end, then_closed}
use Rattle.flow_engine.proofs.reaching.ending.Goals as goal

pub returns-in_err-account-clause-closed : goal.returns-in_err-account-clause-closed
returns-in_err-account-clause-closed g c =
    let closed : IsClosed c.args.residual.now.arcs c.args.node = no_end c.args.residual.now c.requires.stands c.args.node c.in_err-account.ensures in
    search rules

pub returns-clause-closed : goal.returns-clause-closed
returns-clause-closed g c =
    let a = c.args.residual.now.arcs in
    rw c.then_some.ensures (then_closed a (InHalf (Account c.in_ok-account.account)) c.args.node c.end_arc-arc.result c.look.result.passable c.requires.stands.arcs
    c.end_arc-arc.ensures.ends c.in_ok-account.ensures c.look.ensures.passable)
