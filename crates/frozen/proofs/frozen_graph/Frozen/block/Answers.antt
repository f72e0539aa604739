use Rattle.std.proofs.Common.{◌≡◌, arith, length, rules}
use Rattle.std.specs.Vec.{vec_len}
use Rattle.std.proofs.lemmas.List.{length-map}
use Rattle.frozen.specs.Sites.{shared_part}
use Rattle.frozen.proofs.Numbering.{part_within}
use Rattle.frozen.proofs.Readers.{are_full, block_part, row_in, name_in, own_in}
use Rattle.frozen.proofs.frozen_graph.Frozen.block.Goals as goal

pub index-requires : goal.index-requires
index-requires c =
    let below = rw (← c.self.view_is, ← c.account.view_is) at c.requires in
    let n : length c.self.inside.blocks.items ≡ vec_len c.self.inside.blocks = search rules in
    omega (arith, n, length-map c.self.inside.blocks.items shared_part, part_within _ (are_full _ c.self.invariant.0) _ below)

pub returns-clause-part : goal.returns-clause-part
returns-clause-part c =
    let below = rw (← c.self.view_is, ← c.account.view_is) at c.requires in
    rw (← c.self.view_is, ← c.account.view_is) (block_part _ _ c.index.result.now _ c.self.invariant.0 below c.index.ensures c.deref.ensures)

pub returns-clause-row : goal.returns-clause-row
returns-clause-row c =
    let below = rw (← c.self.view_is, ← c.account.view_is) at c.requires in
    rw (← c.account.view_is) (row_in _ _ _ c.self.invariant.0 below (block_part _ _ c.index.result.now _ c.self.invariant.0 below c.index.ensures c.deref.ensures))

pub returns-clause-named : goal.returns-clause-named
returns-clause-named c =
    let below = rw (← c.self.view_is, ← c.account.view_is) at c.requires in
    rw (← c.self.view_is, ← c.account.view_is) (name_in _ _ _ c.self.invariant.0 (block_part _ _ c.index.result.now _ c.self.invariant.0 below c.index.ensures c.deref.ensures))

pub returns-clause-own : goal.returns-clause-own
returns-clause-own c =
    let below = rw (← c.self.view_is, ← c.account.view_is) at c.requires in
    rw (← c.account.view_is) (own_in _ _ _ c.self.invariant.0 below (block_part _ _ c.index.result.now _ c.self.invariant.0 below c.index.ensures c.deref.ensures))
