use Rattle.std.proofs.Common.{ℕ, ◌<◌}
use Rattle.trust_types.specs.Flow.{Flow}
use Rattle.cut_check.specs.Rules.{IsBalanced}
use Rattle.cut_check.specs.inner.Sums.{AreSums}
use Rattle.cut_check.proofs.sums.first_unbalanced.Given as goal

abbrev pub invariant-loop-at : goal.invariant-loop-at
invariant-loop-at l = (n : ℕ) (f : Flow) → AreSums n f l.into l.out → (a : ℕ) → a < l.at → IsBalanced n f a
