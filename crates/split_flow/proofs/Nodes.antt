-- Nodes and split nodes are told apart.
use Rattle.std.proofs.Common.{ℕ, ◌≡◌, ◌≢◌, ◌⊎◌, inl, inr, refl, ap}
use Rattle.std.proofs.lemmas.Bool.{cases_eq}
use Rattle.trust_types.specs.declared.accounts.Node.{Node}
use Rattle.trust_types.specs.declared.accounts.Node.TheVariants.{Root, Account}
use Rattle.split_flow.specs.Split.{SplitNode, InHalf, OutHalf, Supersink}

-- the number of an account
abbrev pub number : Node → ℕ
number Root = 0
number (Account a) = a

-- the node of which a split node is a half
abbrev pub whole : SplitNode → Node
whole (InHalf x) = x
whole (OutHalf x) = x
whole Supersink = Root

pub node_cases : (x y : Node) → (x ≡ y) ⊎ (x ≢ y)
node_cases Root Root = inl refl
node_cases (Account a) (Account b) = elim (cases_eq a b) [ inl same ↦ inl (ap Account same) | inr other ↦ inr (λ e. other (ap number e)) ]
node_cases Root (Account b) = inr (λ e. cc)
node_cases (Account a) Root = inr (λ e. cc)

pub split_cases : (u v : SplitNode) → (u ≡ v) ⊎ (u ≢ v)
split_cases (InHalf x) (InHalf y) = elim (node_cases x y) [ inl same ↦ inl (ap InHalf same) | inr other ↦ inr (λ e. other (ap whole e)) ]
split_cases (OutHalf x) (OutHalf y) = elim (node_cases x y) [ inl same ↦ inl (ap OutHalf same) | inr other ↦ inr (λ e. other (ap whole e)) ]
split_cases Supersink Supersink = inl refl
split_cases u v = inr (λ e. cc)

-- halves of different accounts are apart
pub in_apart : (a b : ℕ) → a ≢ b → InHalf (Account a) ≢ InHalf (Account b)
in_apart a b other same = other (ap (λ (u : SplitNode). number (whole u)) same)

pub out_apart : (a b : ℕ) → a ≢ b → OutHalf (Account a) ≢ OutHalf (Account b)
out_apart a b other same = other (ap (λ (u : SplitNode). number (whole u)) same)
