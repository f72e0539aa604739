use Rattle.std.proofs.Common.{◌+◌, sym, ap, ◌∙◌, subst}
use Rattle.site_history.specs.Histories.{History, records}
use Rattle.site_history.specs.Live.{live}
use Rattle.site_state.specs.inner.States.{IsState}
use Rattle.site_state.proofs.Stating.{state_kept, state_few}
use Rattle.site_state.proofs.state.State.keep.Goals as goal

pub add-requires-clause-few : goal.add-requires-clause-few
add-requires-clause-few g c =
    let s = c.self.inside in state_few s.past.value s.parts s.places s.texts s.published s.last c.self.invariant.state

pub invariant_of-self : goal.invariant_of-self
invariant_of-self g c =
    let s = c.self.inside in
    let h = s.past.value in
    let needs = rw (← c.self.view_is) at c.requires in
    record {
      state = subst (λ (h : History). IsState h c.add.new.self (s.places + 1) (s.texts + c.args.bytes) s.published s.last) (sym c.done.ensures)
          (state_kept h s.parts c.add.new.self s.places s.texts s.published c.args.bytes c.args.caller c.args.moment s.last c.args.act.value c.args.entry c.args.reply c.self.invariant.state
          needs.reply needs.kept needs.entry needs.moment needs.places needs.bytes needs.texts (c.add.ensures h.opening (records h) (live h) c.self.invariant.state.parts_are));
      opening = c.self.invariant.opening ∙ sym (ap (λ (h : History). h.opening) c.done.ensures);
      room = tt;
    }
