use Rattle.std.proofs.Common.{ℕ, suc, ◌-◌, ◌<◌, ◌≡◌, arith, sym, subst, length}
use Rattle.split_graph.specs.Arcs.{rest_of}
use Rattle.split_graph.proofs.Units.{same_count}
use Rattle.flow_engine.proofs.Pushing.{Sending, send_first, send_next, send_last, way-arc}
use Rattle.flow_engine.proofs.serving.send.Goals as goal

pub loop-place-init : goal.loop-place-init
loop-place-init c = record {
  sending = rw c.push.ensures.moved (send_first c.args.residual.now (length c.args.way.now) c.args.search.now c.args.way.now c.args.end c.requires.stands.arcs c.requires.serving c.requires.way c.requires.served);
  stands = c.push.ensures.stands;
}

pub push-requires-in-loop-place-clause-within : goal.push-requires-in-loop-place-clause-within
push-requires-in-loop-place-clause-within c =
    let sending = c.loop-place.invariant.sending in
    let i : ℕ = c.loop-place.place - 1 in
    let arc = way-arc c.args.residual.now.arcs (length c.args.way.now) c.args.search.now c.args.way.now c.args.end i c.requires.stands.arcs c.requires.serving c.requires.way (omega (arith, c.loop-place-test.true, sending.place)) in
    omega (arith, c.cursor.ensures, arc.within, same_count c.args.residual.now.arcs c.loop-place.residual.arcs sending.same.arcs)

pub push-requires-in-loop-place-clause-some : goal.push-requires-in-loop-place-clause-some
push-requires-in-loop-place-clause-some c =
    subst (λ (k : ℕ). 0 < rest_of c.loop-place.residual.arcs k) (sym c.cursor.ensures)
    (c.loop-place.invariant.sending.passable (c.loop-place.place - 1) (omega (arith, c.loop-place-test.true)))

pub loop-place-preserved : goal.loop-place-preserved
loop-place-preserved c =
    let i : ℕ = c.loop-place.place - 1 in
    let number : c.loop-place.place ≡ suc i = omega (arith, c.loop-place-test.true) in
    record {
      sending = rw (c.push-in-loop-place.ensures.moved, c.cursor.ensures)
          (send_next c.args.residual.now c.loop-place.residual (length c.args.way.now) c.args.search.now c.args.way.now c.args.end i c.requires.stands.arcs c.requires.serving c.requires.way c.loop-place.invariant.stands.arcs
          (subst (λ (k : ℕ). Sending c.args.residual.now c.loop-place.residual (length c.args.way.now) c.args.search.now c.args.way.now k) number c.loop-place.invariant.sending));
      stands = c.push-in-loop-place.ensures.stands;
    }

pub returns-clause-moved : goal.returns-clause-moved
returns-clause-moved c =
    send_last c.args.residual.now c.loop-place.residual (length c.args.way.now) c.args.search.now c.args.way.now c.loop-place.place c.loop-place.invariant.sending (omega (arith, c.loop-place-test.false))
