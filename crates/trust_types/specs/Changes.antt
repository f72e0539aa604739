-- What changes a site's graph of certificates and its table, and what a list of changes says.
use Rattle.std.specs.Prelude.{ℕ, Bool, true, false, not, List, [], ◌∷◌, Option, Some, None, ◌+◌, ◌==◌, ◌&&◌, length, fold, filter_map, if◌then◌else◌}
use Rattle.std.specs.List.{list_any}
use Rattle.trust_types.specs.declared.levels.Level.{Level}
use Rattle.trust_types.specs.declared.levels.Level.TheVariants.{Observer}
use Rattle.trust_types.specs.declared.graphs.Cert.{Cert}
use Rattle.trust_types.specs.Levels.{is_grade}
use Rattle.trust_types.specs.Tables.{Table}
use Rattle.trust_types.specs.Graph.{Certificates}

-- An account of this name joins, under the next number; an account is a seed, or is one no more; one account certifies another in
-- place of what it said before; the site has another table.
pub data Change : Type 0 where
  Joined : List ℕ → Change
  Seeded : ℕ → Change
  Unseeded : ℕ → Change
  Certified : Cert → Change
  Tabled : Table → Change

abbrev pub joined_name : Change → Option (List ℕ)
joined_name (Joined name) = Some name
joined_name _ = None

-- The accounts' names in order. An account's number is its place.
abbrev pub names : List Change → List (List ℕ)
names changes = filter_map joined_name changes

-- Whether an account is a seed after one more change.
abbrev pub seed_after : ℕ → Bool → Change → Bool
seed_after a seed (Seeded b) = if a == b then true else seed
seed_after a seed (Unseeded b) = if a == b then false else seed
seed_after a seed _ = seed

-- An account is a seed where the last change that made it one, or one no more, made it one.
abbrev pub seed_among : List Change → ℕ → Bool
seed_among changes a = fold (seed_after a) false changes

abbrev pub table_after : Table → Change → Table
table_after table (Tabled other) = other
table_after table _ = table

-- The table in force: the last one, else the opening one.
abbrev pub table_among : Table → List Change → Table
table_among opening changes = fold table_after opening changes

-- The certificate that a change gives, also one of level Observer, which takes the pair's away.
abbrev pub cert_of : Change → Option Cert
cert_of (Certified cert) = Some cert
cert_of _ = None

abbrev pub certs_among : List Change → List Cert
certs_among changes = filter_map cert_of changes

abbrev pub is_of_pair : ℕ → ℕ → Cert → Bool
is_of_pair a b c = (a == c.from) && (b == c.to)

-- The level of a pair after one more certificate.
abbrev pub level_after : ℕ → ℕ → Level → Cert → Level
level_after a b level c = if is_of_pair a b c then c.level else level

-- The level at which one account stands certified by another: that of the last certificate, or Observer.
abbrev pub standing_among : List Cert → ℕ → ℕ → Level
standing_among certs a b = fold (level_after a b) Observer certs

-- A certificate stands before later ones where it is of a grade and none of them is of its pair.
abbrev pub stands : Cert → List Cert → Bool
stands c later = is_grade c.level && not (list_any (is_of_pair c.from c.to) later)

-- How many certificates stand, which is how many pairs have a grade.
abbrev pub standing_count : List Cert → ℕ
standing_count [] = 0
standing_count (c ∷ later) = (if stands c later then 1 else 0) + standing_count later

-- What the metric reads of the changes.
abbrev pub changed_certificates : List Change → Certificates
changed_certificates changes = record {
  accounts = length (names changes);
  is_seed = seed_among changes;
  standing = standing_among (certs_among changes);
}
