use Rattle.std.proofs.Common.{ℕ}
use Rattle.trust_types.specs.Flow.{IsServed}
use Rattle.flow_engine.specs.Solved.{flow_in}
use Rattle.solver.specs.inner.Listing.{ListsBelow}
use Rattle.solver.proofs.reading.served_accounts.Given as goal

abbrev pub invariant-loop-number : goal.invariant-loop-number
invariant-loop-number l = ListsBelow (λ (a : ℕ). a) (IsServed l.accounts (flow_in l.workspace)) l.number l.served.items
