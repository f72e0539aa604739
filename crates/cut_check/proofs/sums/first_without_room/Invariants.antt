use Rattle.std.proofs.Common.{ℕ, ◌<◌}
use Rattle.trust_types.specs.declared.accounts.Node.TheVariants.{Account}
use Rattle.trust_types.specs.Capacity.{cap_by}
use Rattle.trust_types.specs.Flow.{Flow}
use Rattle.cut_check.specs.Rules.{HasRoom}
use Rattle.cut_check.specs.inner.Sums.{AreSums}
use Rattle.cut_check.proofs.sums.first_without_room.Given as goal

abbrev pub invariant-loop-at : goal.invariant-loop-at
invariant-loop-at l =
    (n : ℕ) (f : Flow) → AreSums n f l.into l.out → (a : ℕ) → a < l.at →
    HasRoom n (cap_by l.root_capacity l.capacities) f (Account a)
