use Rattle.std.proofs.Common.{◌+◌, sym, ap, ◌∙◌, subst}
use Rattle.site_history.specs.Histories.{History}
use Rattle.site_state.specs.inner.States.{IsState}
use Rattle.site_state.proofs.Stating.{state_refused}
use Rattle.site_state.proofs.state.State.refuse.Goals as goal

pub invariant_of-self : goal.invariant_of-self
invariant_of-self c =
    let s = c.self.inside in
    let needs = rw (← c.self.view_is) at c.requires in
    record {
      state = subst (λ (h : History). IsState h s.parts (s.places + 1) (s.texts + c.args.bytes) s.published s.last) (sym c.done.ensures)
          (state_refused s.past.value s.parts s.places s.texts s.published c.args.bytes c.args.caller c.args.moment s.last c.args.act.value c.args.reply c.self.invariant.state
          needs.reply needs.refusal needs.moment needs.places needs.bytes needs.texts);
      opening = c.self.invariant.opening ∙ sym (ap (λ (h : History). h.opening) c.done.ensures);
      room = c.self.invariant.room;
    }
