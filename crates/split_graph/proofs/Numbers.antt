-- The numbers of split nodes tell them apart, and each number is one's.
use Rattle.std.proofs.Common.{ℕ, zero, suc, ◌+◌, ◌≡◌, ◌<◌, refl, arith, ap}
use Rattle.trust_types.specs.declared.accounts.Node.{Node}
use Rattle.trust_types.specs.declared.accounts.Node.TheVariants.{Root, Account}
use Rattle.trust_types.specs.Lines.{place}
use Rattle.split_flow.specs.Split.{SplitNode, InHalf, OutHalf, Supersink, source, IsSplitNode}
use Rattle.split_graph.specs.Numbers.{node_number, node_count}

pub same_place : (x y : Node) → place x ≡ place y → x ≡ y
same_place Root Root same = refl
same_place Root (Account b) same = absurd (omega arith)
same_place (Account a) Root same = absurd (omega arith)
same_place (Account a) (Account b) same = let account : a ≡ b = omega arith in ap Account account

pub node_number-injective : (u v : SplitNode) → node_number u ≡ node_number v → u ≡ v
node_number-injective Supersink Supersink same = refl
node_number-injective (InHalf x) (InHalf y) same = ap InHalf (same_place x y (omega arith))
node_number-injective (OutHalf x) (OutHalf y) same = ap OutHalf (same_place x y (omega arith))
node_number-injective u v same = absurd (omega arith)

-- the split node two numbers on
abbrev two_on : SplitNode → SplitNode
two_on Supersink = OutHalf Root
two_on (InHalf x) = InHalf (Account (place x))
two_on (OutHalf x) = OutHalf (Account (place x))

node_number-two_on : (u : SplitNode) → node_number (two_on u) ≡ node_number u + 2
node_number-two_on Supersink = omega arith
node_number-two_on (InHalf x) = omega arith
node_number-two_on (OutHalf x) = omega arith

pub node_numbered : (k : ℕ) → (u : SplitNode) × (node_number u ≡ k)
node_numbered zero = (Supersink, refl)
node_numbered (suc zero) = (source, refl)
node_numbered (suc (suc k)) =
    let before = node_numbered k in
    (two_on before.0, omega (arith, node_number-two_on before.0, before.1))

pub is_split_node : (n : ℕ) (u : SplitNode) → node_number u < node_count n → IsSplitNode n u
is_split_node n Supersink below = tt
is_split_node n (InHalf Root) below = tt
is_split_node n (OutHalf Root) below = tt
is_split_node n (InHalf (Account a)) below = omega arith
is_split_node n (OutHalf (Account a)) below = omega arith
