use Rattle.std.proofs.Common.{◌≡◌, ◌≤◌, ◌+◌, length, take, All, vec_len, vec_capacity}
use Rattle.frozen.specs.Sites.{shared_parts}
use Rattle.cert_book.specs.inner.Slots.{slot_parts, HasBlock}
use Rattle.cert_book.proofs.slots.share_all.Given as goal

abbrev pub invariant-loop-k : goal.invariant-loop-k
invariant-loop-k g l = record {
  same : slot_parts l.slots ≡ slot_parts l.initial.slots;
  held : All HasBlock l.slots;
  shared : shared_parts l.blocks.items ≡ take l.k (slot_parts l.initial.slots);
  count : vec_len l.blocks ≡ l.k;
  room : length l.slots ≤ vec_capacity l.blocks;
  steps : l.steps ≤ l.initial.steps + l.k;
}
