use Rattle.std.proofs.Common.{◌+◌, sym, ap, ◌∙◌, subst}
use Rattle.site_history.specs.Histories.{History}
use Rattle.site_state.specs.inner.States.{IsState}
use Rattle.site_state.proofs.Stating.{state_failed}
use Rattle.site_state.proofs.state.State.fail.Goals as goal

pub invariant_of-self : goal.invariant_of-self
invariant_of-self c =
    let s = c.self.inside in
    let room = rw (← c.self.view_is) at c.requires.places in
    record {
      state = subst (λ (h : History). IsState h s.parts (s.places + 1) s.texts s.published s.last) (sym c.failed.ensures)
          (state_failed s.past.value s.parts s.places s.texts s.published c.args.caller s.last c.self.invariant.state room);
      opening = c.self.invariant.opening ∙ sym (ap (λ (h : History). h.opening) c.failed.ensures);
      room = c.self.invariant.room;
    }
