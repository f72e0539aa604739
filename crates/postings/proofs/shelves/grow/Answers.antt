use Rattle.std.proofs.Common.{arith, ap, ◌∙◌}
use Rattle.postings.specs.inner.Shelves.{places_at}
use Rattle.postings.proofs.Shelving.{one_more}
use Rattle.postings.proofs.shelves.grow.Goals as goal

pub loop-added-preserved : goal.loop-added-preserved
loop-added-preserved c = record {
  long = omega (arith, c.push_reserved.ensures.len);
  room = omega (arith, c.push_reserved.ensures.capacity);
  same = λ m.
      ap (λ shelves. places_at shelves m) c.push_reserved.ensures.items ∙ one_more c.loop-added.shelves.items c.new.result m c.new.ensures
      ∙ c.loop-added.invariant.same m;
}
