use Rattle.std.proofs.Common.{◌≡◌, ◌∙◌, sym, ap, arith, length}
use Rattle.frozen.specs.Revision.{Revision}
use Rattle.frozen.proofs.Finding.{number_found, number_none, none_more}
use Rattle.frozen.proofs.frozen_graph.Frozen.find.Goals as goal

pub returns-then-eq : goal.returns-then-eq
returns-then-eq c = sym (number_found _ c.args.name.now c.name.result c.loop-account.account c.loop-account.invariant c.name.ensures (sym c.if-eq.ensures))

pub returns : goal.returns
returns c =
    let all : c.self.inside.account_count ≡ length c.args.self.now.names = c.self.invariant.1 ∙ ap (λ (r : Revision). length r.names) c.self.view_is in
    sym (number_none _ c.args.name.now c.loop-account.account c.loop-account.invariant (omega (arith, all, c.loop-account-test.false, c.loop-account.auto.account-end)))

pub loop-account-preserved : goal.loop-account-preserved
loop-account-preserved c = none_more _ c.args.name.now c.name.result c.loop-account.account c.loop-account.invariant c.name.ensures (sym c.if-eq.ensures)
