use Rattle.std.proofs.Common.{◌+◌, Some, refl, sym, ap, ◌∙◌, subst}
use Rattle.site_history.specs.Histories.{History}
use Rattle.site_state.specs.inner.States.{IsState}
use Rattle.site_state.proofs.Publishing.{state_published}
use Rattle.site_state.proofs.state.State.publish.Goals as goal

pub invariant_of-self : goal.invariant_of-self
invariant_of-self c =
    let s = c.self.inside in
    let h = s.past.value in
    let needs = rw (← c.self.view_is) at c.requires in
    record {
      state = subst (λ (h : History). IsState h s.parts (s.places + 1) s.texts (s.published + 1) (Some c.in-Ok.shared)) (sym c.published-past.ensures)
          (state_published h s.parts s.places s.texts s.published c.args.caller (s.published + 1) s.last c.args.candidate c.in-Ok.shared c.self.invariant.state needs.suits needs.newer
          c.vouch.ensures.grades c.vouch.ensures.sound needs.few needs.places refl (ap (λ q. q.number) c.in-Ok.ensures.ok) (ap (λ q. q.candidate) c.in-Ok.ensures.ok));
      opening = c.self.invariant.opening ∙ sym (ap (λ (h : History). h.opening) c.published-past.ensures);
      room = c.self.invariant.room;
    }
