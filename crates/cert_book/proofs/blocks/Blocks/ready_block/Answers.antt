use Rattle.std.proofs.Common.{◌<◌, ◌/◌, arith, length}
use Rattle.std.proofs.lemmas.List.{length-map, length-set}
use Rattle.cert_book.specs.inner.Slots.{slot_part}
use Rattle.cert_book.proofs.Lists.{map-set_same}
use Rattle.cert_book.proofs.Entering.{copy_le, own_if_ready, ready_read}
use Rattle.cert_book.proofs.Marking.{ready_book, ready_set}
use Rattle.cert_book.proofs.blocks.Blocks.ready_block.Goals as goal

pub invariant_of-self : goal.invariant_of-self
invariant_of-self g c =
    let below = rw (← c.self.view_is) at c.requires in
    let lt : c.args.account / 64 < length c.self.inside.slots.items = omega (arith, below, length-map c.self.inside.slots.items slot_part) in
    (ready_book _ _ _ _ c.index_mut.result.now _ c.self.invariant.0 lt c.index_mut.ensures.value c.ready_slot.ensures.same c.ready_slot.ensures.held, tt)

pub invariant_of-self-2 : goal.invariant_of-self-2
invariant_of-self-2 g c =
    let below = rw (← c.self.view_is) at c.requires in
    let lt : c.args.account / 64 < length c.self.inside.slots.items = omega (arith, below, length-map c.self.inside.slots.items slot_part) in (
      ready_book _ _ _ _ c.index_mut.result.now _ c.self.invariant.0 lt c.index_mut.ensures.value c.ready_slot.ensures.same c.ready_slot.ensures.held,
      (λ inside. ready_set _ _ _ lt c.in_ok-ready_slot.ensures.ready, λ end. absurd (omega (arith, end, length-set c.self.inside.slots.items (c.args.account / 64) c.ready_slot.new.slot))),
    )

pub returns-in_err-ready_slot-clause-same : goal.returns-in_err-ready_slot-clause-same
returns-in_err-ready_slot-clause-same g c =
    let below = rw (← c.self.view_is) at c.requires in
    let lt : c.args.account / 64 < length c.self.inside.slots.items = omega (arith, below, length-map c.self.inside.slots.items slot_part) in
    rw (← c.self.view_is) (map-set_same slot_part c.self.inside.slots.items (c.args.account / 64) c.index_mut.result.now c.ready_slot.new.slot lt c.index_mut.ensures.value c.ready_slot.ensures.same)

pub returns-clause-same : goal.returns-clause-same
returns-clause-same g c =
    let below = rw (← c.self.view_is) at c.requires in
    let lt : c.args.account / 64 < length c.self.inside.slots.items = omega (arith, below, length-map c.self.inside.slots.items slot_part) in
    rw (← c.self.view_is) (map-set_same slot_part c.self.inside.slots.items (c.args.account / 64) c.index_mut.result.now c.ready_slot.new.slot lt c.index_mut.ensures.value c.ready_slot.ensures.same)

pub returns-in_err-ready_slot-clause-steps : goal.returns-in_err-ready_slot-clause-steps
returns-in_err-ready_slot-clause-steps g c =
    let below = rw (← c.self.view_is) at c.requires in
    let lt : c.args.account / 64 < length c.self.inside.slots.items = omega (arith, below, length-map c.self.inside.slots.items slot_part) in
    rw (← c.self.view_is) (omega (arith, c.ready_slot.ensures.steps, copy_le _ _ _ _ c.index_mut.result.now c.self.invariant.0 lt c.index_mut.ensures.value))

pub returns-clause-steps : goal.returns-clause-steps
returns-clause-steps g c =
    let below = rw (← c.self.view_is) at c.requires in
    let lt : c.args.account / 64 < length c.self.inside.slots.items = omega (arith, below, length-map c.self.inside.slots.items slot_part) in
    rw (← c.self.view_is) (omega (arith, c.ready_slot.ensures.steps, copy_le _ _ _ _ c.index_mut.result.now c.self.invariant.0 lt c.index_mut.ensures.value))

pub returns-in_err-ready_slot-clause-again : goal.returns-in_err-ready_slot-clause-again
returns-in_err-ready_slot-clause-again g c = λ ready.
    let below = rw (← c.self.view_is) at c.requires in
    let lt : c.args.account / 64 < length c.self.inside.slots.items = omega (arith, below, length-map c.self.inside.slots.items slot_part) in
    let is = rw (← c.self.view_is) at ready in
    let held = rw is at c.self.invariant.1 in
    c.ready_slot.ensures.own (own_if_ready _ (ready_read _ _ _ lt c.index_mut.ensures.value (held.0 lt)))

pub returns-clause-again : goal.returns-clause-again
returns-clause-again g c = λ ready.
    let below = rw (← c.self.view_is) at c.requires in
    let lt : c.args.account / 64 < length c.self.inside.slots.items = omega (arith, below, length-map c.self.inside.slots.items slot_part) in
    let is = rw (← c.self.view_is) at ready in
    let held = rw is at c.self.invariant.1 in
    c.ready_slot.ensures.own (own_if_ready _ (ready_read _ _ _ lt c.index_mut.ensures.value (held.0 lt)))
