use Rattle.std.proofs.Common.{◌≡◌, ◌++◌, ◌∷◌, [], length, vec_len, ap, sym, subst, ◌∙◌, arith, rules}
use Rattle.trust_types.specs.NameLists.{AreApart}
use Rattle.drill.specs.Drill.{names}
use Rattle.drill.proofs.Naming.{names-none, names-more, length-names, names-apart}
use Rattle.drill.proofs.sites.names.Goals as goal

pub loop-account-init : goal.loop-account-init
loop-account-init c = c.new-names.ensures.items ∙ sym names-none

pub loop-account-preserved : goal.loop-account-preserved
loop-account-preserved c =
    c.in_ok-push.ensures.items ∙ (λ i. c.loop-account.invariant i ++ c.in_ok-name_at.ensures i ∷ []) ∙ sym (names-more c.loop-account.account)

pub returns-clause-count : goal.returns-clause-count
returns-clause-count c =
    let long : length c.loop-account.names.items ≡ vec_len c.loop-account.names = search rules in
    let named : length c.loop-account.names.items ≡ c.loop-account.account = ap length c.loop-account.invariant ∙ length-names c.loop-account.account in
    omega (arith, long, named)

pub returns-clause-apart : goal.returns-clause-apart
returns-clause-apart c =
    let end : c.loop-account.account ≡ 2000 = omega arith in
    subst AreApart (sym (c.loop-account.invariant ∙ ap names end)) names-apart
