use Rattle.std.proofs.Common.{◌≡◌, length, sym, subst, arith}
use Rattle.std.proofs.lemmas.Result.{IfOk-at_ok, IfOk-weaker}
use Rattle.wide_solver.specs.inner.Halves.{AreRostersFrom}
use Rattle.wide_solver.proofs.Halves.{both_rosters}
use Rattle.wide_solver.proofs.halving.+fn-rosters_from-join+arg2+fn-rosters_from-join+arg3+rosters_from.Goals as goal

pub returns-clause-from : goal.returns-clause-from
returns-clause-from g t c =
    let f = c.args.frozen.now in
    let lower = IfOk-at_ok (λ v. (length v.items ≡ _) × AreRostersFrom f _ v.items × _) c.in_ok-lower.was c.join-lower.ensures.first in
    let upper = IfOk-at_ok (λ v. (length v.items ≡ _) × AreRostersFrom f _ v.items × _) c.in_ok-upper.was c.join-lower.ensures.second in
    IfOk-weaker c.joined.result _ (λ rosters. AreRostersFrom f c.args.low rosters.items)
    (λ rosters is. subst (AreRostersFrom f c.args.low) (sym is)
    (both_rosters f c.args.low _ c.in_ok-lower.field-0.items c.in_ok-upper.field-0.items lower.1 upper.1 (omega (arith, lower.0, c.split_at_mut-lower.ensures.front_len, c.requires.ranks))))
    c.joined.ensures
