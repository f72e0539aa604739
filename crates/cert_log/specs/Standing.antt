-- The certificates that stand.
use Rattle.std.specs.Prelude.{ℕ, ◌≡◌, ◌≢◌, ◌<◌, ◌≤◌, ◌↔◌, List, All, AllPairs, Contains, length}
use Rattle.trust_types.specs.declared.graphs.Cert.{Cert}
use Rattle.trust_types.specs.declared.limits.TheConstants.{MOST_CERTS}
use Rattle.trust_types.specs.Levels.{IsGrade}
use Rattle.trust_types.specs.Changes.{standing_among}
use Rattle.trust_types.specs.Certs.{IsBefore, CanStand}

-- These stand after the certificates: at most 2,000,000, in rising order of giver and taker, each pair that has a grade
-- at its level, and no other.
pub record AreStanding (certs kept : List Cert) : Type 0 where
  pub few : length kept ≤ MOST_CERTS
  pub rises : AllPairs IsBefore kept
  pub just : (c : Cert) → Contains kept c ↔ (IsGrade c.level × (standing_among certs c.from c.to ≡ c.level))

-- Between two of the accounts.
pub record IsBetween (accounts : ℕ) (c : Cert) : Type 0 where
  pub giver : c.from < accounts
  pub taker : c.to < accounts
  pub others : c.from ≢ c.to

-- What stands can stand beside one another, where the certificates are between accounts.
abbrev pub StandingCanStand : Type 0
StandingCanStand = (accounts : ℕ) (certs kept : List Cert) → All (IsBetween accounts) certs → AreStanding certs kept → CanStand accounts kept
