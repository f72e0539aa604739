use Rattle.std.proofs.Common.{sym, ap, ◌∙◌, subst}
use Rattle.roster_form.specs.Candidates.{held_level}
use Rattle.site_history.specs.Held.{level_of}
use Rattle.site_state.specs.inner.States.{LastIs}
use Rattle.site_state.specs.States.{Known}
use Rattle.site_state.proofs.Holding.{level-none, level-some}
use Rattle.site_state.proofs.state.State.level_of.Goals as goal

pub returns-in-None : goal.returns-in-None
returns-in-None c =
    let h = c.self.inside.past.value in
    let none = subst (λ o. LastIs h o) c.in-None.is c.self.invariant.state.last_is in
    sym (level-none h c.args.account none) ∙ ap (λ (s : Known). level_of s.history c.args.account) c.self.view_is

pub returns-in-Some : goal.returns-in-Some
returns-in-Some c =
    let h = c.self.inside.past.value in
    let last = subst (λ o. LastIs h o) c.in-Some.is c.self.invariant.state.last_is in
    c.level_of.ensures
    ∙ (ap (λ q. held_level q.candidate c.args.account) c.deref.ensures
    ∙ (level-some h c.in-Some.last.value.number c.in-Some.last.value.candidate c.args.account last.published ∙ ap (λ (s : Known). level_of s.history c.args.account) c.self.view_is))
