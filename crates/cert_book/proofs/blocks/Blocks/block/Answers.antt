use Rattle.std.proofs.Common.{◌≡◌, ◌∙◌, arith, rules, length, sym}
use Rattle.std.specs.Vec.{vec_len}
use Rattle.frozen.proofs.Readers.{row_in, name_in, own_in}
use Rattle.cert_book.proofs.Entering.{slot_inside, slot_read, has_block}
use Rattle.cert_book.proofs.blocks.Blocks.block.Goals as goal

pub index-requires : goal.index-requires
index-requires c =
    let below = rw (← c.self.view_is, ← c.account.view_is) at c.requires in
    let n : length c.self.inside.slots.items ≡ vec_len c.self.inside.slots = search rules in
    omega (arith, n, slot_inside _ _ _ _ c.self.invariant.0 below)

pub block_of-requires : goal.block_of-requires
block_of-requires c =
    let below = rw (← c.self.view_is, ← c.account.view_is) at c.requires in
    has_block _ _ _ _ _ c.self.invariant.0 (slot_inside _ _ _ _ c.self.invariant.0 below) c.index.ensures

pub returns-clause-part : goal.returns-clause-part
returns-clause-part c =
    let below = rw (← c.self.view_is, ← c.account.view_is) at c.requires in
    rw (← c.self.view_is, ← c.account.view_is) (c.block_of.ensures ∙ sym (slot_read _ _ _ (slot_inside _ _ _ _ c.self.invariant.0 below) c.index.ensures))

pub returns-clause-row : goal.returns-clause-row
returns-clause-row c =
    let below = rw (← c.self.view_is, ← c.account.view_is) at c.requires in
    rw (← c.account.view_is) (row_in _ _ _ c.self.invariant.0.parts below (c.block_of.ensures ∙ sym (slot_read _ _ _ (slot_inside _ _ _ _ c.self.invariant.0 below) c.index.ensures)))

pub returns-clause-named : goal.returns-clause-named
returns-clause-named c =
    let below = rw (← c.self.view_is, ← c.account.view_is) at c.requires in
    rw (← c.self.view_is, ← c.account.view_is) (name_in _ _ _ c.self.invariant.0.parts (c.block_of.ensures ∙ sym (slot_read _ _ _ (slot_inside _ _ _ _ c.self.invariant.0 below) c.index.ensures)))

pub returns-clause-own : goal.returns-clause-own
returns-clause-own c =
    let below = rw (← c.self.view_is, ← c.account.view_is) at c.requires in
    rw (← c.account.view_is) (own_in _ _ _ c.self.invariant.0.parts below (c.block_of.ensures ∙ sym (slot_read _ _ _ (slot_inside _ _ _ _ c.self.invariant.0 below) c.index.ensures)))
