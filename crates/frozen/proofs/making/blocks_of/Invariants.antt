use Rattle.std.proofs.Common.{◌≡◌, ◌≤◌, ◌<◌, ◌+◌, ◌-◌, ◌*◌, ℕ, length, slice_index}
use Rattle.frozen.specs.Parts.{count}
use Rattle.frozen.specs.Sites.{shared_parts, part_at, parts_for}
use Rattle.frozen.specs.inner.Copies.{AreCopies}
use Rattle.frozen.proofs.making.blocks_of.Given as goal

abbrev pub invariant-loop-first : goal.invariant-loop-first
invariant-loop-first g l = record {
  copied : AreCopies l.graph l.names l.first (shared_parts l.blocks.items);
  within : l.first ≤ l.accounts;
  at : l.first < l.accounts → l.first ≡ 64 * length l.blocks.items;
  all : l.first < l.accounts → (k : ℕ) → k < length (shared_parts l.blocks.items) → count (part_at (shared_parts l.blocks.items) k) ≡ 64;
  count : length l.blocks.items ≡ parts_for l.first;
  steps : l.steps ≡ l.fn.steps + (2 * length l.blocks.items + l.first + slice_index l.graph.starts l.first);
}

abbrev pub decreases-loop-first : goal.decreases-loop-first
decreases-loop-first g l = l.accounts - l.first
