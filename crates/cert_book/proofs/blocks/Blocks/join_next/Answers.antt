use Rattle.std.proofs.Common.{◌≤◌, ◌/◌, arith, length}
use Rattle.std.proofs.lemmas.List.{length-map}
use Rattle.cert_book.specs.inner.Slots.{slot_part}
use Rattle.cert_book.proofs.Joining.{next_book, next_joins, end_slot}
use Rattle.cert_book.proofs.blocks.Blocks.join_next.Goals as goal

pub begun_slot-requires : goal.begun_slot-requires
begun_slot-requires g c =
    let past = rw (← c.self.view_is, ← c.self.invariant.0.counts_accounts) at c.requires.past in
    let le : length c.self.inside.slots.items ≤ c.self.inside.account_count / 64 = omega (arith, past, length-map c.self.inside.slots.items slot_part) in
    let room = rw (← c.self.view_is, ← c.self.invariant.0.counts_accounts) at c.requires.ready in
    let ready = rw room at c.self.invariant.1 in
    rw c.take-spare.ensures.value (ready.1 (end_slot _ _ _ c.self.invariant.0 le)).0

pub push_reserved-requires : goal.push_reserved-requires
push_reserved-requires g c =
    let past = rw (← c.self.view_is, ← c.self.invariant.0.counts_accounts) at c.requires.past in
    let le : length c.self.inside.slots.items ≤ c.self.inside.account_count / 64 = omega (arith, past, length-map c.self.inside.slots.items slot_part) in
    let room = rw (← c.self.view_is, ← c.self.invariant.0.counts_accounts) at c.requires.ready in
    let ready = rw room at c.self.invariant.1 in
    (ready.1 (end_slot _ _ _ c.self.invariant.0 le)).1

pub invariant_of-self : goal.invariant_of-self
invariant_of-self g c =
    let past = rw (← c.self.view_is, ← c.self.invariant.0.counts_accounts) at c.requires.past in
    let le : length c.self.inside.slots.items ≤ c.self.inside.account_count / 64 = omega (arith, past, length-map c.self.inside.slots.items slot_part) in
    let none = rw (← c.self.view_is) at c.requires.new in
    let few = rw (← c.self.view_is) at c.requires.few in
    (next_book _ _ _ _ c.args.name c.begun_slot.result c.self.invariant.0 le none few c.push_reserved.ensures.items c.begun_slot.ensures.part c.begun_slot.ensures.held, tt)

pub returns-clause-joined : goal.returns-clause-joined
returns-clause-joined g c =
    let past = rw (← c.self.view_is, ← c.self.invariant.0.counts_accounts) at c.requires.past in
    let le : length c.self.inside.slots.items ≤ c.self.inside.account_count / 64 = omega (arith, past, length-map c.self.inside.slots.items slot_part) in
    let none = rw (← c.self.view_is) at c.requires.new in
    let few = rw (← c.self.view_is) at c.requires.few in
    rw (← c.self.view_is) (next_joins c.self.inside.slots.items c.push_reserved.new.self.items _ _ c.args.name c.begun_slot.result c.self.invariant.0 le none few c.push_reserved.ensures.items c.begun_slot.ensures.part)
