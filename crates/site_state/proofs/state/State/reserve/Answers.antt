use Rattle.std.proofs.Common.{sym, subst}
use Rattle.site_history.specs.Histories.{records}
use Rattle.site_history.specs.Live.{live}
use Rattle.site_history.specs.Sites.{Site}
use Rattle.site_state.specs.inner.Parts.{CanAdd}
use Rattle.site_state.proofs.Stating.{state_parts}
use Rattle.site_state.proofs.state.State.reserve.Goals as goal

pub reserve-requires : goal.reserve-requires
reserve-requires g c =
    let can = rw (← c.self.view_is) at c.requires in
    subst (λ (s : Site). CanAdd s.certs s.posts c.args.entry.now) (sym c.self.invariant.state.parts_are.site) can

pub invariant_of-self : goal.invariant_of-self
invariant_of-self g c =
    let s = c.self.inside in
    let h = s.past.value in
    record {
      state = state_parts h s.parts c.reserve.new.self s.places s.texts s.published s.last c.self.invariant.state (c.reserve.ensures.same h.opening (records h) (live h) c.self.invariant.state.parts_are);
      opening = c.self.invariant.opening;
      room = tt;
    }

pub invariant_of-self-2 : goal.invariant_of-self-2
invariant_of-self-2 g c =
    let s = c.self.inside in
    let h = s.past.value in
    let are = c.reserve.ensures.same h.opening (records h) (live h) c.self.invariant.state.parts_are in
    let can = rw (← c.self.view_is) at c.requires in
    record {
      state = state_parts h s.parts c.reserve.new.self s.places s.texts s.published s.last c.self.invariant.state are;
      opening = c.self.invariant.opening;
      room = record {
        room = rw c.of.ensures c.in_ok-reserve.ensures.room;
        can = rw c.of.ensures (subst (λ (s : Site). CanAdd s.certs s.posts c.args.entry.now) (sym are.site) can);
      };
    }
