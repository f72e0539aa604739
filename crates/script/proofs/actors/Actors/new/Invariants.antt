use Rattle.std.proofs.Common.{◌≡◌, ◌≤◌, replicate, vec_len, vec_capacity}
use Rattle.script.specs.Stages.{nothing_held}
use Rattle.script.proofs.actors.Actors.new.Given as goal

abbrev pub invariant-loop-added : goal.invariant-loop-added
invariant-loop-added l = record {
  list : l.list.items ≡ replicate l._added nothing_held;
  long : vec_len l.list ≡ l._added;
  room : 64 ≤ vec_capacity l.list;
}
