use Rattle.std.proofs.Common.{◌≡◌, ◌≤◌, ◌+◌, ◌-◌, take, vec_len}
use Rattle.std.specs.Io.KnownBytes.{prepend_known}
use Rattle.outside.proofs.reading.read_to_end.Given as goal

abbrev pub invariant-loop-taken : goal.invariant-loop-taken
invariant-loop-taken g l = record {
  holds : l.taken ≤ vec_len l.bytes;
  within : l.taken ≤ l.limit + 1;
  left : g.S.Source.left l.initial.source ≡ prepend_known (take l.taken l.bytes.items) (g.S.Source.left l.source);
  ends : g.S.Source.ends l.source ≡ g.S.Source.ends l.initial.source;
  faults : g.S.Source.faults l.source ≡ g.S.Source.faults l.initial.source;
}

abbrev pub decreases-loop-taken : goal.decreases-loop-taken
decreases-loop-taken g l = l.limit + 1 - l.taken
