use Rattle.std.proofs.Common.{◌≡◌, ◌≤◌, ◌<◌, ◌+◌, ℕ, slice_index, length, vec_capacity, vec_len}
use Rattle.frozen.proofs.rows.lowered.Given as goal

abbrev pub invariant-loop-number : goal.invariant-loop-number
invariant-loop-number l = record {
  count : vec_len l.lowered ≡ l.number-index;
  each : (k : ℕ) → k < l.number-index → slice_index l.lowered.items k + l.base ≡ slice_index l.numbers k;
  room : length l.numbers ≤ vec_capacity l.lowered;
}
