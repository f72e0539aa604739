use Rattle.std.proofs.Common.{All, sym, subst, arith}
use Rattle.std.proofs.lemmas.List.Elements.{All-push}
use Rattle.flow_engine.specs.declared.solving.Workspace.{Workspace}
use Rattle.split_graph.specs.Network.{Fits}
use Rattle.wide_solver.proofs.Halves.{fits_exactly}
use Rattle.wide_solver.proofs.halving.workspaces_for.Goals as goal

pub loop-preserved : goal.loop-preserved
loop-preserved c =
    let before = c.loop.invariant in
    let fits : Fits c.args.frozen.now c.in_ok-reserve.field-0.network.room = fits_exactly c.args.frozen.now _ _ _ c.in_ok-reserve.ensures.room c.accounts.ensures.value c.certs.ensures.value in (
      omega (arith, before.0, c.push_reserved.ensures.len),
      subst (All (λ (w : Workspace). Fits c.args.frozen.now w.network.room)) (sym c.push_reserved.ensures.items)
          (All-push (λ (w : Workspace). Fits c.args.frozen.now w.network.room) c.loop.workspaces.items c.in_ok-reserve.field-0 before.1 fits),
      omega (arith, before.2, c.push_reserved.ensures.capacity),
    )
