use Rattle.std.proofs.Common.{◌≡◌, ◌≤◌, length, take, vec_len, vec_capacity}
use Rattle.name_index.specs.inner.Indexes.{IsTableOf}
use Rattle.name_index.proofs.index.entries_of.Given as goal

abbrev pub invariant-loop-number : goal.invariant-loop-number
invariant-loop-number l = record {
  room : length l.names ≤ vec_capacity l.entries;
  made : vec_len l.entries ≡ l.number;
  whole : IsTableOf (take l.number l.names) l.entries.items;
}
