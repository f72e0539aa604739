use Rattle.std.proofs.Common.{◌<◌, ◌≤◌, ◌-◌, length}
use Rattle.std.specs.List.{AllWithin}
use Rattle.name_index.specs.inner.KeyTables.{bucket_of}
use Rattle.name_index.proofs.key_table.start_of.Given as goal

abbrev pub invariant-loop-start : goal.invariant-loop-start
invariant-loop-start l = record {
  inside : l.start ≤ length l.keys;
  before : AllWithin (λ key. bucket_of (length l.keys) key < l.bucket) l.keys 0 l.start;
}

abbrev pub decreases-loop-start : goal.decreases-loop-start
decreases-loop-start l = length l.keys - l.start
