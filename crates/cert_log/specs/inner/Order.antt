-- For the functions that sort: certificates in order of giver and taker, and those of them that stand.
use Rattle.std.specs.Prelude.{ℕ, Bool, false, List, [], ◌∷◌, if◌then◌else◌}
use Rattle.std.specs.Ordering.{nat_cmp, is_lt, ordering_then}
use Rattle.std.specs.List.Sorted.{IsSortedBy}
use Rattle.trust_types.specs.declared.graphs.Cert.{Cert}
use Rattle.trust_types.specs.Changes.{is_of_pair, stands}

abbrev pub pair_lt : Cert → Cert → Bool
pair_lt c d = is_lt (ordering_then (nat_cmp c.from d.from) (nat_cmp c.to d.to))

-- No certificate is of a lesser pair than the one before it.
abbrev pub RisesByPair : List Cert → Type 0
RisesByPair certs = IsSortedBy pair_lt certs

-- The first of the certificates is of the pair.
abbrev pub begins_with_pair : ℕ → ℕ → List Cert → Bool
begins_with_pair a b [] = false
begins_with_pair a b (c ∷ certs) = is_of_pair a b c

-- The first certificate stands before the later ones.
abbrev pub first_stands : List Cert → Bool
first_stands [] = false
first_stands (c ∷ later) = stands c later

-- Those of a list that stand before the later ones, in their order.
abbrev pub standing_list : List Cert → List Cert
standing_list [] = []
standing_list (c ∷ later) = if stands c later then c ∷ standing_list later else standing_list later
