use Rattle.std.proofs.Common.{length}
use Rattle.cut_check.proofs.Adding.{AreAdded}
use Rattle.cut_check.proofs.sums.add_up.Given as goal

abbrev pub invariant-loop-line : goal.invariant-loop-line
invariant-loop-line l = AreAdded (length l.fn.into) l.flow l.line-index l.out_of_root l.into l.out
