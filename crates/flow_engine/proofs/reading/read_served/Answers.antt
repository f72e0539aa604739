use Rattle.std.proofs.Common.{ℕ, Bool, false, ◌==◌, arith}
use Rattle.std.proofs.lemmas.List.Edits.{fill_by_more}
use Rattle.trust_types.specs.declared.accounts.Node.TheVariants.{Account}
use Rattle.split_flow.specs.Split.{InHalf, Supersink}
use Rattle.split_graph.specs.Arcs.{Arcs, between}
use Rattle.flow_engine.proofs.Readings.{used_up}
use Rattle.flow_engine.proofs.reading.read_served.Goals as goal

pub loop-account-preserved : goal.loop-account-preserved
loop-account-preserved g c =
    let a : Arcs = c.args.residual.now.arcs in
    let b : ℕ = c.loop-account.account in
    let ends : ℕ → Bool = λ x. between a (InHalf (Account x)) Supersink == 0 in
    record {
      steps = omega (arith, c.look.ensures.step, c.loop-account.invariant.steps);
      served = rw (used_up a c.requires.stands.arcs (InHalf (Account b)) Supersink c.end_arc-end.result c.end_arc-end.ensures.ends c.look.result.passable c.look.ensures.passable)
          (fill_by_more ends c.loop-account.served b false (omega (arith, c.requires.places, c.loop-account-test.true)) c.loop-account.invariant.served);
    }
