-- What the parts of a site, one after another, say of it. Part k has the accounts from 64 * k on.
use Rattle.std.specs.Prelude.{ℕ, Bool, ◌≡◌, ◌≢◌, ◌<◌, ◌≤◌, ◌+◌, ◌/◌, ◌%◌, List, [], ◌∷◌, ◌++◌, length, slice_index_or, sum_by, map}
use Rattle.std.specs.declared.sync.Arc.{Arc}
use Rattle.trust_types.specs.declared.levels.Level.{Level}
use Rattle.trust_types.specs.declared.graphs.Cert.{Cert}
use Rattle.trust_types.specs.declared.limits.TheConstants.{MOST_ACCOUNTS, MOST_CERTS}
use Rattle.trust_types.specs.Graph.{Certificates}
use Rattle.trust_types.specs.NameLists.{AreApart}
use Rattle.frozen.specs.Parts.{Part, PartWithRoom, no_part, count, marks_seed, degree_in, giver_in, taker_in, level_in, standing_in, IsPart}

-- What a graph's blocks say, in order.
abbrev pub Parts : Type 0
Parts = List Part

-- The part of a shared block.
abbrev pub shared_part : {Z : Type 0} → Arc PartWithRoom Z → Part
shared_part block = block.value.part

-- The parts of shared blocks.
abbrev pub shared_parts : {Z : Type 0} → List (Arc PartWithRoom Z) → List Part
shared_parts blocks = map shared_part blocks

abbrev pub part_at : List Part → ℕ → Part
part_at ps k = slice_index_or ps k no_part

-- The part that has an account.
abbrev pub part_of : List Part → ℕ → Part
part_of ps a = part_at ps (a / 64)

-- The names of the accounts, by number.
abbrev pub names : List Part → List (List ℕ)
names [] = []
names (p ∷ ps) = p.names ++ names ps

abbrev pub accounts : List Part → ℕ
accounts ps = length (names ps)

abbrev pub is_seed : List Part → ℕ → Bool
is_seed ps a = marks_seed (part_of ps a) (a % 64)

abbrev pub degree : List Part → ℕ → ℕ
degree ps a = degree_in (part_of ps a) (a % 64)

abbrev pub taker : List Part → ℕ → ℕ → ℕ
taker ps a i = taker_in (part_of ps a) (a % 64) i

abbrev pub level_given : List Part → ℕ → ℕ → Level
level_given ps a i = level_in (part_of ps a) (a % 64) i

-- The i-th certificate that an account gives.
abbrev pub given : List Part → ℕ → ℕ → Cert
given ps a i = record { from = a; to = taker ps a i; level = level_given ps a i }

abbrev pub standing : List Part → ℕ → ℕ → Level
standing ps a b = standing_in (part_of ps a) (a % 64) b

-- What the metric reads of the parts.
abbrev pub certificates_of : List Part → Certificates
certificates_of ps = record { accounts = accounts ps; is_seed = is_seed ps; standing = standing ps }

-- How many certificates there are.
abbrev pub certs : List Part → ℕ
certs ps = sum_by (λ p. length p.takers) ps

-- How many parts so many accounts take.
abbrev pub parts_for : ℕ → ℕ
parts_for accounts = (accounts + 63) / 64

-- The parts are full but the last, and together they are a site: each certificate stands in its giver's row and is for another account,
-- and no name stands twice.
pub record AreParts (ps : List Part) : Type 0 where
  pub parts : (k : ℕ) → k < length ps → IsPart (part_at ps k)
  pub full : (k : ℕ) → k + 1 < length ps → count (part_at ps k) ≡ 64
  pub giver : (a : ℕ) → a < accounts ps → 0 < degree ps a → giver_in (part_of ps a) (a % 64) ≡ a
  pub below : (a i : ℕ) → a < accounts ps → i < degree ps a → taker ps a i < accounts ps
  pub others : (a i : ℕ) → a < accounts ps → i < degree ps a → taker ps a i ≢ a
  pub few : accounts ps ≤ MOST_ACCOUNTS
  pub few_certs : certs ps ≤ MOST_CERTS
  pub apart : AreApart (names ps)
