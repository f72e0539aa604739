-- What is the same of a site, however it is kept: as a text's lines, as a frozen graph, or in a proof.
use Rattle.std.specs.Prelude.{ℕ, ◌≡◌, List, length}
use Rattle.trust_types.specs.Graph.{Certificates}
use Rattle.trust_types.specs.Tables.{Table}
use Rattle.trust_types.specs.Kept.{accounts, kept_certificates}
use Rattle.trust_types.specs.Layout.{row_certificates as certificates_in}
use Rattle.trust_types.specs.Lines.{flow_of}
use Rattle.frozen.specs.Revision.{Revision, certificates as certificates_of}
use Rattle.cut_check.specs.declared.proofs.Proof.{Proof}
use Rattle.site_text.specs.Site.{SiteText, ProofText}

-- A site's capacity table, the names of its accounts by number, and what the metric reads of it.
pub record View : Type 0 where
  pub table : Table
  pub names : List (List ℕ)
  pub graph : Certificates

abbrev pub of_text : SiteText → View
of_text s = record { table = s.table; names = accounts s.records; graph = kept_certificates s.records }

abbrev pub of_frozen : Revision → View
of_frozen f = record { table = f.caps; names = f.names; graph = certificates_of f }

abbrev pub of_proof : Proof → View
of_proof p = record { table = p.caps; names = p.names.items; graph = certificates_in p.graph }

-- A frozen graph of just the site of a text. Its revision is the number of the lines behind the text's head, which is that of
-- its records.
pub record IsFrozenOf (s : SiteText) (f : Revision) : Type 0 where
  pub same : of_frozen f ≡ of_text s
  pub number : f.number ≡ length s.records

-- A proof of just what a text claims, with the lines of the flow in rising order.
pub record IsProofOf (t : ProofText) (p : Proof) : Type 0 where
  pub same : of_proof p ≡ of_text t.site
  pub level : p.level ≡ t.level
  pub flow : flow_of p.flow.items ≡ flow_of t.claim.flow
  pub pass : p.pass.items ≡ t.claim.pass
  pub full : p.full.items ≡ t.claim.full
