use Rattle.std.proofs.Common.{◌+◌, List, refl, sym, ap, ◌∙◌, subst}
use Rattle.sessions.specs.Sessions.{Session, without}
use Rattle.site_history.specs.Histories.{History}
use Rattle.site_history.specs.Live.{live}
use Rattle.site_history.specs.Sites.{Site}
use Rattle.site_history.specs.declared.replies.Reply.TheVariants.{LoggedOut}
use Rattle.site_state.specs.inner.States.{IsState}
use Rattle.site_state.proofs.Stating.{state_session, logged_out}
use Rattle.site_state.proofs.state.State.log_out.Goals as goal

pub invariant_of-self : goal.invariant_of-self
invariant_of-self c =
    let s = c.self.inside in
    let h = s.past.value in
    let needs = rw (← c.self.view_is) at c.requires in
    let lived = ap (λ (s : Site). s.live) c.self.invariant.state.parts_are.site in
    record {
      state = subst (λ (h : History). IsState h c.log_out.new.self (s.places + 1) (s.texts + c.args.bytes) s.published s.last) (sym c.done.ensures)
          (state_session h s.parts c.log_out.new.self s.places s.texts s.published c.args.bytes c.args.caller c.args.moment s.last c.args.act.value LoggedOut c.self.invariant.state
          (sym needs.judged) refl needs.moment needs.places needs.bytes needs.texts c.log_out.ensures.same
          (c.log_out.ensures.live ∙ (ap (λ (l : List Session). without l c.args.token) lived ∙ sym (logged_out (live h) c.args.act.value.author c.args.token needs.token))));
      opening = c.self.invariant.opening ∙ sym (ap (λ (h : History). h.opening) c.done.ensures);
      room = tt;
    }
