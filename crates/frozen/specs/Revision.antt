-- One revision of a site's certificates, as the metric reads it.
use Rattle.std.specs.Prelude.{ℕ, ◌≡◌, List, length}
use Rattle.trust_types.specs.declared.graphs.Cert.{Cert}
use Rattle.trust_types.specs.Tables.{Table}
use Rattle.trust_types.specs.Graph.{Certificates}
use Rattle.trust_types.specs.Certs.{IsMadeOf}
use Rattle.frozen.specs.Parts.{Part}
use Rattle.frozen.specs.Sites.{names as names_of, certificates_of}

-- The number of the revision, the capacity table, the accounts' names by number, and the parts of the site.
pub record Revision : Type 0 where
  pub number : ℕ
  pub caps : Table
  pub names : List (List ℕ)
  pub parts : List Part

abbrev pub certificates : Revision → Certificates
certificates r = certificates_of r.parts

-- The revision that parts are under a number and a table.
abbrev pub revision_of : ℕ → Table → List Part → Revision
revision_of number caps ps = record { number = number; caps = caps; names = names_of ps; parts = ps }

-- The revision has this number and table, and these names, seeds and certificates.
pub record Freezes (r : Revision) (number : ℕ) (caps : Table) (names : List (List ℕ)) (seeds : List ℕ) (certs : List Cert) : Type 0 where
  pub revision : r.number ≡ number
  pub table : r.caps ≡ caps
  pub named : r.names ≡ names
  pub graph : IsMadeOf (certificates r) (length names) seeds certs
