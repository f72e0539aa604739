use Rattle.std.proofs.Common.{◌≤◌, ◌-◌, vec_capacity}
use Rattle.frozen.specs.inner.Copies.{AreFrom}
use Rattle.frozen.proofs.rows.numbers_from.Given as goal

abbrev pub invariant-loop-number : goal.invariant-loop-number
invariant-loop-number l = record {
  done : AreFrom l.numbers.items l.first (l.number - l.first);
  room : l.end - l.first ≤ vec_capacity l.numbers;
}
