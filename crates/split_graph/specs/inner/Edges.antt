-- Which arcs of a split graph are along edges. The crate's own functions alone speak of it.
use Rattle.std.specs.Prelude.{Bool, true, false, ◌==◌, if◌then◌else◌}
use Rattle.trust_types.specs.declared.accounts.Node.TheVariants.{Root, Account}
use Rattle.split_flow.specs.Split.{SplitNode, InHalf, OutHalf}

-- An arc along an edge leads from the second half of a node to the first half of another one, which is an account.
abbrev pub is_along_edge : SplitNode → SplitNode → Bool
is_along_edge (OutHalf Root) (InHalf (Account b)) = true
is_along_edge (OutHalf (Account a)) (InHalf (Account b)) = if a == b then false else true
is_along_edge u v = false
