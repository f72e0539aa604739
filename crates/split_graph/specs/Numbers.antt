-- The numbers of the split nodes, by which arrays speak of them: the supersink comes first, and then the halves of each node in
-- order.
use Rattle.std.specs.Prelude.{ℕ, ◌+◌, ◌*◌}
use Rattle.trust_types.specs.Lines.{place}
use Rattle.split_flow.specs.Split.{SplitNode, InHalf, OutHalf, Supersink}

abbrev pub node_number : SplitNode → ℕ
node_number Supersink = 0
node_number (InHalf x) = 2 * place x + 1
node_number (OutHalf x) = 2 * place x + 2

-- How many split nodes there are, of n accounts.
abbrev pub node_count : ℕ → ℕ
node_count n = 2 * n + 3
