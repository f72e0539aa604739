use Rattle.std.proofs.Common.{◌+◌, refl}
use Rattle.trust_types.specs.declared.accounts.Node.TheVariants.{Account}
use Rattle.flow_engine.specs.Solved.{sides_in}
use Rattle.solver.proofs.Listing.{sides_more}
use Rattle.solver.proofs.reading.cut_nodes.Goals as goal

pub loop-number-preserved : goal.loop-number-preserved
loop-number-preserved c =
    rw (c.in_ok-put-2.ensures.pass, c.in_ok-put-2.ensures.full)
    (sides_more (sides_in c.args.workspace.now) (c.loop-number.number + 1) c.loop-number.cut.pass.items c.loop-number.cut.full.items (Account c.loop-number.number) c.side-side.result
    c.loop-number.invariant refl c.side-side.ensures)
