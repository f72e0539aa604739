use Rattle.std.proofs.Common.{◌∙◌, ap, sym, arith, rules}
use Rattle.frozen.specs.Sites.{shared_parts}
use Rattle.cert_book.specs.inner.Slots.{slot_part, slot_parts, HasBlock}
use Rattle.cert_book.proofs.Lists.{map-set_same, all_set, shared_more}
use Rattle.cert_book.proofs.slots.share_all.Goals as goal

pub returns-in_err-block-clause-same : goal.returns-in_err-block-clause-same
returns-in_err-block-clause-same g c =
    map-set_same slot_part c.loop-k.slots c.loop-k.k c.index-slots-k.result c.share_slot.new.slot (omega (arith, c.loop-k.auto.slots, c.loop-k-test.true)) c.index-slots-k.is (c.share_slot.ensures.same ∙ ap slot_part (sym c.index-slots-k.is)) ∙ c.loop-k.invariant.same

pub loop-k-preserved : goal.loop-k-preserved
loop-k-preserved g c = record {
  same = map-set_same slot_part c.loop-k.slots c.loop-k.k c.index-slots-k.result c.share_slot.new.slot (omega (arith, c.loop-k.auto.slots, c.loop-k-test.true)) c.index-slots-k.is (c.share_slot.ensures.same ∙ ap slot_part (sym c.index-slots-k.is)) ∙ c.loop-k.invariant.same;
  held = all_set HasBlock c.loop-k.slots c.loop-k.k c.share_slot.new.slot c.loop-k.invariant.held c.share_slot.ensures.held;
  shared = ap shared_parts c.push_reserved.ensures.items ∙ shared_more (slot_parts c.args.slots.now) c.loop-k.slots c.loop-k.blocks.items c.in_ok-block.block c.loop-k.k c.index-slots-k.result c.loop-k.invariant.same c.loop-k.invariant.shared (omega (arith, c.loop-k.auto.slots, c.loop-k-test.true)) c.index-slots-k.is (c.in_ok-block.ensures.shared ∙ ap slot_part (sym c.index-slots-k.is));
  count = search rules;
  room = search rules;
  steps = search rules;
}
