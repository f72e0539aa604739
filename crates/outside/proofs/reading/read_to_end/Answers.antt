use Rattle.std.proofs.Common.{◌<◌, arith, ◌∙◌}
use Rattle.outside.proofs.Known.{prepend_known-take}
use Rattle.outside.proofs.reading.read_to_end.Goals as goal

pub loop-taken-preserved : goal.loop-taken-preserved
loop-taken-preserved g c =
    let read = c.in_ok-n.ensures in
    let before = c.loop-taken.invariant in
    let some : 0 < c.in_ok-n.n = omega arith in
    record {
      holds = read.holds;
      within = read.within;
      left = prepend_known-take _ _ _ _ _ _ _ before.left read.front read.bytes;
      ends = read.ends.1 some ∙ before.ends;
      faults = read.cause ∙ before.faults;
    }
