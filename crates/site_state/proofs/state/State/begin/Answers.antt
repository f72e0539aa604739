use Rattle.std.proofs.Common.{None, sym, ap, subst}
use Rattle.site_history.specs.Histories.{History}
use Rattle.site_state.specs.inner.States.{IsState}
use Rattle.site_state.proofs.Stating.{state_begun}
use Rattle.site_state.proofs.state.State.begin.Goals as goal

pub invariant_of-result : goal.invariant_of-result
invariant_of-result c = record {
  state = subst (λ (h : History). IsState h c.new.result 0 0 0 None) (sym c.begin.ensures) (state_begun c.args.opening c.new.result c.new.ensures);
  opening = sym (ap (λ (h : History). h.opening) c.begin.ensures);
  room = tt;
}
