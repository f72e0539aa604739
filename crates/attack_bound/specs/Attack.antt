-- The set that a bound is of.
use Rattle.std.specs.Prelude.{Bool, false, List, slice_index_or}
use Rattle.trust_types.specs.Boundary.{Members}

-- The accounts that a list marks, by number. A number past the list is no member.
abbrev pub members_by : List Bool → Members
members_by marks a = slice_index_or marks a false
