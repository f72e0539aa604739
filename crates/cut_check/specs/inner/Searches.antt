-- What the searches of a check find: where a rule fails first, or nothing where it holds. The crate's own functions alone speak of it.
use Rattle.std.specs.Prelude.{ℕ, ◌<◌, ◌≤◌, Option, Some, None}
use Rattle.trust_types.specs.declared.accounts.Node.{Node}
use Rattle.trust_types.specs.Lines.{place}
use Rattle.cut_check.specs.Firsts.{FailsFirstAtAccount, FailsFirstAtNode, FailsFirstAtPair, HoldsAtAccounts, HoldsAtNodes, HoldsAtPairs}

-- Among n accounts, and among them and the root.
abbrev pub FindsAccount : ℕ → (ℕ → Type 0) → Option ℕ → Type 0
FindsAccount n Rule None = HoldsAtAccounts n Rule
FindsAccount n Rule (Some a) = (a < n) × FailsFirstAtAccount Rule a

abbrev pub FindsNode : ℕ → (Node → Type 0) → Option Node → Type 0
FindsNode n Rule None = HoldsAtNodes n Rule
FindsNode n Rule (Some x) = (place x ≤ n) × FailsFirstAtNode Rule x

abbrev pub FindsPair : ℕ → (Node → ℕ → Type 0) → Option (Node × ℕ) → Type 0
FindsPair n Rule None = HoldsAtPairs Rule
FindsPair n Rule (Some p) = (place p.0 ≤ n) × (p.1 < n) × FailsFirstAtPair Rule p.0 p.1
