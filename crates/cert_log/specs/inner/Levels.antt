-- For the log's own functions: what it keeps, and the levels of pairs by pair.
use Rattle.std.specs.Prelude.{ℕ, Bool, true, false, List, [], ◌∷◌, ◌++◌, ◌≡◌, ◌≤◌, Option, Some, None, Result, Ok, Err, nat_le, length, if◌then◌else◌}
use Rattle.trust_types.specs.declared.levels.Level.{Level}
use Rattle.trust_types.specs.declared.graphs.Cert.{Cert}
use Rattle.trust_types.specs.declared.limits.TheConstants.{MOST_CERTS}
use Rattle.trust_types.specs.Levels.{is_grade}
use Rattle.trust_types.specs.Changes.{standing_among, standing_count}
use Rattle.pair_map.specs.Pairs.{Pairs, value_at}
use Rattle.cert_log.specs.declared.logs.Kept.{Kept}
use Rattle.cert_log.specs.declared.logs.Kept.TheVariants.{Lines, Levels}

-- The level, where it is a grade.
abbrev pub grade_of : Level → Option Level
grade_of level = if is_grade level then Some level else None

-- The certificate that an entry of a map stands for.
abbrev pub cert_at : (ℕ × ℕ) × Level → Cert
cert_at entry = record { from = entry.0.0; to = entry.0.1; level = entry.1 }

-- A map has the level of each pair that stands, and no more than 2,000,000 stand.
pub record AreLevels (levels : Pairs Level) (certs : List Cert) : Type 0 where
  pub at : (a b : ℕ) → value_at levels a b ≡ grade_of (standing_among certs a b)
  pub count : length levels ≡ standing_count certs
  pub few : standing_count certs ≤ MOST_CERTS

abbrev pub Keeps : Kept → List Cert → Type 0
Keeps (Lines kept) certs = (kept.items ≡ certs) × (length certs ≤ MOST_CERTS)
Keeps (Levels levels) certs = AreLevels levels certs

-- A map takes a further certificate exactly where no more than 2,000,000 stand then; else it stays as it was.
abbrev pub TakesLevel : {E : Type 0} → List Cert → Cert → Result Bool E → Pairs Level → Type 0
TakesLevel certs c (Ok fits) new = (fits ≡ nat_le (standing_count (certs ++ c ∷ [])) MOST_CERTS) × (fits ≡ true → AreLevels new (certs ++ c ∷ [])) × (fits ≡ false → AreLevels new certs)
TakesLevel certs c (Err e) new = AreLevels new certs
