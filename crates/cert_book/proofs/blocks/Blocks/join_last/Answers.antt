use Rattle.std.proofs.Common.{◌≡◌, ◌<◌, ◌/◌, arith, length, rules}
use Rattle.std.specs.Vec.{vec_len}
use Rattle.std.proofs.lemmas.List.{length-map}
use Rattle.cert_book.specs.inner.Slots.{slot_part}
use Rattle.cert_book.proofs.Entering.{ready_read}
use Rattle.cert_book.proofs.Joining.{last_book, last_joins, count_last}
use Rattle.cert_book.proofs.blocks.Blocks.join_last.Goals as goal

pub index_mut-requires : goal.index_mut-requires
index_mut-requires g c =
    let inside = rw (← c.self.view_is, ← c.self.invariant.0.counts_accounts) at c.requires.inside in
    let n : length c.self.inside.slots.items ≡ vec_len c.self.inside.slots = search rules in
    omega (arith, inside, n, length-map c.self.inside.slots.items slot_part)

pub join_slot-requires-clause-ready : goal.join_slot-requires-clause-ready
join_slot-requires-clause-ready g c =
    let inside = rw (← c.self.view_is, ← c.self.invariant.0.counts_accounts) at c.requires.inside in
    let lt : c.self.inside.account_count / 64 < length c.self.inside.slots.items = omega (arith, inside, length-map c.self.inside.slots.items slot_part) in
    let room = rw (← c.self.view_is, ← c.self.invariant.0.counts_accounts) at c.requires.ready in
    let ready = rw room at c.self.invariant.1 in
    ready_read _ _ _ lt c.index_mut.ensures.value (ready.0 lt)

pub join_slot-requires-clause-few : goal.join_slot-requires-clause-few
join_slot-requires-clause-few g c =
    let inside = rw (← c.self.view_is, ← c.self.invariant.0.counts_accounts) at c.requires.inside in
    let lt : c.self.inside.account_count / 64 < length c.self.inside.slots.items = omega (arith, inside, length-map c.self.inside.slots.items slot_part) in
    count_last _ _ _ _ c.self.invariant.0 lt c.index_mut.ensures.value

pub invariant_of-self : goal.invariant_of-self
invariant_of-self g c =
    let inside = rw (← c.self.view_is, ← c.self.invariant.0.counts_accounts) at c.requires.inside in
    let lt : c.self.inside.account_count / 64 < length c.self.inside.slots.items = omega (arith, inside, length-map c.self.inside.slots.items slot_part) in
    let none = rw (← c.self.view_is) at c.requires.new in
    let few = rw (← c.self.view_is) at c.requires.few in
    (last_book _ _ _ c.args.name c.index_mut.result.now _ c.self.invariant.0 lt none few c.index_mut.ensures.value c.join_slot.ensures.added c.join_slot.ensures.held, tt)

pub returns-clause-joined : goal.returns-clause-joined
returns-clause-joined g c =
    let inside = rw (← c.self.view_is, ← c.self.invariant.0.counts_accounts) at c.requires.inside in
    let lt : c.self.inside.account_count / 64 < length c.self.inside.slots.items = omega (arith, inside, length-map c.self.inside.slots.items slot_part) in
    let none = rw (← c.self.view_is) at c.requires.new in
    let few = rw (← c.self.view_is) at c.requires.few in
    rw (← c.self.view_is) (last_joins c.self.inside.slots.items _ _ c.args.name c.index_mut.result.now c.join_slot.new.slot c.self.invariant.0 lt none few c.index_mut.ensures.value c.join_slot.ensures.added)
