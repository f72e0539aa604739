use Rattle.std.proofs.Common.{◌≡◌, ◌<◌, ◌≤◌, ◌+◌, length, vec_len, vec_capacity}
use Rattle.std.specs.List.{AllWithin}
use Rattle.name_index.specs.inner.KeyTables.{bucket_of, AreBucketStarts}
use Rattle.name_index.proofs.key_table.starts_of.Given as goal

abbrev pub invariant-loop-bucket : goal.invariant-loop-bucket
invariant-loop-bucket l = record {
  room : length l.keys + 1 ≤ vec_capacity l.starts;
  made : vec_len l.starts ≡ l.bucket;
  inside : l.start ≤ length l.keys;
  before : AllWithin (λ key. bucket_of (length l.keys) key < l.bucket) l.keys 0 l.start;
  places : AreBucketStarts l.keys l.starts.items;
}
