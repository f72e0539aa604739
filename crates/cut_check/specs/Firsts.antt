-- Where a rule holds, and where it fails first. The root comes before the accounts, which go by number; pairs go by
-- giver, then by taker.
use Rattle.std.specs.Prelude.{ℕ, ◌≡◌, ◌<◌, ◌⊎◌}
use Rattle.trust_types.specs.declared.accounts.Node.{Node}
use Rattle.trust_types.specs.declared.accounts.Node.TheVariants.{Root, Account}
use Rattle.trust_types.specs.Lines.{place}

-- A rule fails at x, and holds at all that comes before x.
abbrev pub FailsFirst : {X : Type 0} → (X → X → Type 0) → (X → Type 0) → X → Type 0
FailsFirst {X} comes_before Rule x = ¬ (Rule x) × ((y : X) → comes_before y x → Rule y)

abbrev pub FailsFirstAtAccount : (ℕ → Type 0) → ℕ → Type 0
FailsFirstAtAccount Rule a = FailsFirst (λ b c. b < c) Rule a

abbrev pub FailsFirstAtNode : (Node → Type 0) → Node → Type 0
FailsFirstAtNode Rule x = FailsFirst (λ y z. place y < place z) Rule x

abbrev pub FailsFirstAtPair : (Node → ℕ → Type 0) → Node → ℕ → Type 0
FailsFirstAtPair Rule x b =
    FailsFirst {X = Node × ℕ} (λ p q. (place p.0 < place q.0) ⊎ ((place p.0 ≡ place q.0) × (p.1 < q.1)))
    (λ p. Rule p.0 p.1) (x, b)

-- A rule holds at each of n accounts; at the root and at each of them; at each pair.
abbrev pub HoldsAtAccounts : ℕ → (ℕ → Type 0) → Type 0
HoldsAtAccounts n Rule = (a : ℕ) → a < n → Rule a

abbrev pub HoldsAtNodes : ℕ → (Node → Type 0) → Type 0
HoldsAtNodes n Rule = Rule Root × HoldsAtAccounts n (λ a. Rule (Account a))

abbrev pub HoldsAtPairs : (Node → ℕ → Type 0) → Type 0
HoldsAtPairs Rule = (x : Node) (b : ℕ) → Rule x b
