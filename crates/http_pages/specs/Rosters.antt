-- The answers that show a grade's roster, or its proof, of a publication.
use Rattle.std.specs.Prelude.{ℕ, List, ◌≡◌, codes, map, Option, Some, None}
use Rattle.trust_types.specs.declared.levels.Level.{Level}
use Rattle.trust_types.specs.NodeWords.{name_of}
use Rattle.trust_types.specs.Proven.{Lists}
use Rattle.roster_form.specs.Candidates.{lists_at}
use Rattle.roster_form.specs.declared.publications.Publication.{Publication}
use Rattle.site_text.specs.View.{of_frozen}
use Rattle.audit_text.specs.Canonical.{IsCanonical}
use Rattle.http_requests.specs.declared.routes.Route.{Route}
use Rattle.http_requests.specs.declared.routes.Route.TheVariants as route
use Rattle.http_pages.specs.declared.responses.Kind.TheVariants.{Plain}
use Rattle.html_pages.specs.Pages.{roster_page, no_roster}
use Rattle.http_pages.specs.Responses.{Response, found, failed}

-- A roster: the names that the publication's own graph has for its accounts; 404 where the publication hasn't the grade.
abbrev pub roster_in : Level → Publication → Option Lists → Response
roster_in grade p None = failed 404 (codes "no grade")
roster_in grade p (Some lists) = found (roster_page grade p.number p.revision (map (name_of p.candidate.graph.names) lists.served))

-- Before there is a publication there is a page that says so.
abbrev pub roster_response : Level → Option Publication → Response
roster_response grade None = found (no_roster grade)
roster_response grade (Some p) = roster_in grade p (lists_at p.candidate grade)

-- A text as it is.
abbrev pub plain : List ℕ → Response
plain text = record { status = 200; kind = Plain; location = None; cookie = None; body = text }

-- A proof: the canonical text of the roster's lists over the publication's own graph; 404 where the publication hasn't the grade, and before
-- there is one.
abbrev pub IsProofIn : Level → Publication → Option Lists → Response → Type 0
IsProofIn grade p None response = response ≡ failed 404 (codes "no grade")
IsProofIn grade p (Some lists) response =
    (text : List ℕ) × IsCanonical (of_frozen p.candidate.graph) grade lists text × (response ≡ plain text)

abbrev pub IsProofResponse : Level → Option Publication → Response → Type 0
IsProofResponse grade None response = response ≡ failed 404 (codes "no publication")
IsProofResponse grade (Some p) response = IsProofIn grade p (lists_at p.candidate grade) response

-- A request for a roster or for a proof.
abbrev pub AsksForRoster : Route → Type 0
AsksForRoster (route.RosterOf grade) = Unit {0}
AsksForRoster (route.ProofOf grade) = Unit {0}
AsksForRoster _ = ⊥

-- What such a request is answered with while this is the publication that is shown.
abbrev pub IsShown : Route → Option Publication → Response → Type 0
IsShown (route.RosterOf grade) shown response = response ≡ roster_response grade shown
IsShown (route.ProofOf grade) shown response = IsProofResponse grade shown response
IsShown _ shown response = ⊥
