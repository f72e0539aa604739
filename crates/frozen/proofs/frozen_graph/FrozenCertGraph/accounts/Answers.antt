use Rattle.std.proofs.Common.{subst, ◌≤◌, ℕ}
use Rattle.frozen.proofs.Readers.{gives_each_once, outside, no_seeds}
use Rattle.frozen.proofs.frozen_graph.FrozenCertGraph.accounts.Goals as goal

pub returns-clause-readers : goal.returns-clause-readers
returns-clause-readers c = rw (← c.self.view_is) (gives_each_once _ c.self.invariant.0)

pub returns-clause-outside : goal.returns-clause-outside
returns-clause-outside c = rw (← c.self.view_is) (λ a b past. outside _ c.self.invariant.0 a b (subst (λ (n : ℕ). n ≤ a) c.self.invariant.1 past))

pub returns-clause-no_seeds : goal.returns-clause-no_seeds
returns-clause-no_seeds c = rw (← c.self.view_is) (λ a past. no_seeds _ c.self.invariant.0 a (subst (λ (n : ℕ). n ≤ a) c.self.invariant.1 past))
