-- The certificates that were given to a log.
use Rattle.std.specs.Prelude.{Bool, true, false, List, [], ◌∷◌, ◌++◌, ◌≡◌, Result, Ok, Err, nat_le}
use Rattle.trust_types.specs.declared.graphs.Cert.{Cert}
use Rattle.trust_types.specs.declared.limits.TheConstants.{MOST_CERTS}
use Rattle.trust_types.specs.Changes.{standing_count}
use Rattle.cert_log.specs.declared.logs.CertLog.{CertLog}
use Rattle.cert_log.specs.inner.Levels.{Keeps}

-- These certificates were given to the log, in this order.
pub record IsLog (log : CertLog) (certs : List Cert) : Type 0 where
  pub keeps : Keeps log.kept certs

-- A further certificate is taken exactly where no more than 2,000,000 stand then; else the log stays as it was, also where
-- there was a fault.
abbrev pub Takes : {E : Type 0} → List Cert → Cert → Result Bool E → CertLog → Type 0
Takes certs c (Ok fits) new = (fits ≡ nat_le (standing_count (certs ++ c ∷ [])) MOST_CERTS) × (fits ≡ true → IsLog new (certs ++ c ∷ [])) × (fits ≡ false → IsLog new certs)
Takes certs c (Err e) new = IsLog new certs
