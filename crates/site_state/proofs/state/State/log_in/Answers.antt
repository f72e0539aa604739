use Rattle.std.proofs.Common.{◌+◌, ◌++◌, ◌∷◌, [], List, refl, sym, ap, ◌∙◌, subst}
use Rattle.sessions.specs.Sessions.{Session}
use Rattle.site_history.specs.Histories.{History}
use Rattle.site_history.specs.Live.{live}
use Rattle.site_history.specs.Sites.{Site}
use Rattle.site_history.specs.declared.replies.Reply.TheVariants.{LoggedIn}
use Rattle.site_state.specs.inner.States.{IsState}
use Rattle.site_state.proofs.Stating.{state_session, logged_in}
use Rattle.site_state.proofs.state.State.log_in.Goals as goal

pub invariant_of-self-2 : goal.invariant_of-self-2
invariant_of-self-2 c =
    let s = c.self.inside in
    let h = s.past.value in
    let needs = rw (← c.self.view_is) at c.requires in
    let lived = ap (λ (s : Site). s.live) c.self.invariant.state.parts_are.site in
    record {
      state = subst (λ (h : History). IsState h c.log_in.new.self (s.places + 1) (s.texts + c.args.bytes) s.published s.last) (sym c.done.ensures)
          (state_session h s.parts c.log_in.new.self s.places s.texts s.published c.args.bytes c.args.caller c.args.moment s.last c.args.act.value (LoggedIn c.args.account) c.self.invariant.state
          (sym needs.judged) refl needs.moment needs.places needs.bytes needs.texts c.log_in.ensures.same
          (c.in_ok-log_in.ensures.ok ∙ (ap (λ (l : List Session). l ++ (c.args.token, c.args.account) ∷ []) lived ∙ sym (logged_in (live h) c.args.account c.args.act.value.command c.args.token needs.token))));
      opening = c.self.invariant.opening ∙ sym (ap (λ (h : History). h.opening) c.done.ensures);
      room = tt;
    }
