-- The sides of a cut as an array has them.
use Rattle.std.specs.Prelude.{List, slice_index_or}
use Rattle.trust_types.specs.declared.accounts.Node.TheVariants.{Root, Account}
use Rattle.trust_types.specs.declared.flows.Side.{Side}
use Rattle.trust_types.specs.declared.flows.Side.TheVariants.{Outside}
use Rattle.trust_types.specs.Cut.{Sides}

-- The sides of the root and of the accounts, which stand in a list by number. A number past the list lies outside.
abbrev pub side_by : Side → List Side → Sides
side_by root sides Root = root
side_by root sides (Account a) = slice_index_or sides a Outside
