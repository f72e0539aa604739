use Rattle.std.proofs.Common.{◌≡◌, arith, rules, length}
use Rattle.std.specs.Vec.{vec_len}
use Rattle.cert_book.proofs.Entering.{slot_inside, row_here, ready_read}
use Rattle.cert_book.proofs.Marking.{marked_book, marked_after}
use Rattle.cert_book.proofs.blocks.Blocks.mark.Goals as goal

pub index_mut-requires : goal.index_mut-requires
index_mut-requires c =
    let below = rw (← c.self.view_is, ← c.account.view_is) at c.requires.account in
    let n : length c.self.inside.slots.items ≡ vec_len c.self.inside.slots = search rules in
    omega (arith, n, slot_inside _ _ _ _ c.self.invariant.0 below)

pub seed_slot-requires-clause-ready : goal.seed_slot-requires-clause-ready
seed_slot-requires-clause-ready c =
    let below = rw (← c.self.view_is) at c.requires.account in
    let room = rw (← c.self.view_is) at c.requires.ready in
    let ready = rw room at c.self.invariant.1 in
    ready_read _ _ _ (slot_inside _ _ _ _ c.self.invariant.0 below) (rw c.account.view_is at c.index_mut.ensures.value) (ready.0 (slot_inside _ _ _ _ c.self.invariant.0 below))

pub seed_slot-requires-clause-row : goal.seed_slot-requires-clause-row
seed_slot-requires-clause-row c =
    let below = rw (← c.self.view_is) at c.requires.account in
    rw c.account.view_is (row_here _ _ _ _ _ c.self.invariant.0 below (rw c.account.view_is at c.index_mut.ensures.value))

pub invariant_of-self : goal.invariant_of-self
invariant_of-self c =
    let below = rw (← c.self.view_is) at c.requires.account in
    let set_is = rw c.account.view_is at c.seed_slot.ensures.set in
    rw c.account.view_is (marked_book _ _ _ c.args.account c.index_mut.result.now _ c.args.seed c.self.invariant.0 below (rw c.account.view_is at c.index_mut.ensures.value) set_is c.seed_slot.ensures.held, tt)

pub returns-clause-marked : goal.returns-clause-marked
returns-clause-marked c =
    let below = rw (← c.self.view_is) at c.requires.account in
    let set_is = rw c.account.view_is at c.seed_slot.ensures.set in
    rw (← c.self.view_is, c.account.view_is) (marked_after _ _ _ c.args.account c.index_mut.result.now c.seed_slot.new.slot c.args.seed c.self.invariant.0 below (rw c.account.view_is at c.index_mut.ensures.value) set_is)
