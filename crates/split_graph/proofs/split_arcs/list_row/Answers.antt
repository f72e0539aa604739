use Rattle.std.proofs.Common.{◌≡◌, ◌∙◌, arith}
use Rattle.std.proofs.lemmas.Grind.{common_steps}
use Rattle.std.proofs.lemmas.List.{get_or_default}
use Rattle.frozen.specs.Sites.{taker}
use Rattle.split_graph.proofs.split_arcs.list_row.Goals as goal

pub loop-to-preserved : goal.loop-to-preserved
loop-to-preserved c =
    let taken = c.takers-to-items.ensures.each c.loop-to.to-index (omega (arith, c.loop-to-test.true, c.takers-to-items.ensures.count)) in
    let is : c.to-item.result ≡ taker c.args.frozen.now.parts c.args.account c.loop-to.to-index = c.to-item.is ∙ get_or_default _ _ _ 0 c.loop-to-test.true ∙ taken in
    record {
      listed = grind (arith, common_steps, is);
      count = omega (arith, c.loop-to.invariant.count, c.push_reserved.ensures.len);
      capacity = grind (arith, common_steps);
    }
