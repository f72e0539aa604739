-- What is printed of rosters that are proven.
use Rattle.std.proofs.Common.{ℕ, ◌≡◌, ◌<◌, List, length, get_or, All, sym, subst}
use Rattle.std.proofs.lemmas.List.Elements.{Contains-get_or}
use Rattle.trust_types.specs.declared.levels.Level.{Level}
use Rattle.trust_types.specs.Proven.{Lists}
use Rattle.frozen.specs.Revision.{Revision, certificates}
use Rattle.roster_form.specs.Candidates.{IsSound}
use Rattle.site_text.specs.View.{of_frozen}
use Rattle.audit_text.specs.Canonical.{IsAudit, IsCanonical, IsReadAs}
use Rattle.commands.specs.Answers.{IsRosterLine, roster_line}

-- A roster's accounts are accounts of the graph.
pub among : (f : Revision) (level : Level) (r : Lists) → IsSound f level r → All (λ a. a < (certificates f).accounts) r.served
among f level r sound = λ k d inside. ((sound.proven.1.2.serves (get_or r.served k d)).1 (Contains-get_or r.served k d inside)).0

pub line_of : (f : Revision) (level : Level) (r : Lists) (line : List ℕ) → IsSound f level r → line ≡ roster_line f.names level r.served →
    IsRosterLine (of_frozen f) level line
line_of f level r line sound printed = record {
  served = r.served;
  roster = sound.roster;
  rises = sound.proven.0.served;
  bounded = sound.bounded;
  printed = printed;
}

pub audit_of : (f : Revision) (level : Level) (r : Lists) (text : List ℕ) → IsSound f level r → IsCanonical (of_frozen f) level r text →
    IsReadAs (of_frozen f) level r text → IsAudit level (of_frozen f) text
audit_of f level r text sound canonical readable = record { lists = r; proven = sound.proven; canonical = canonical; readable = readable }
