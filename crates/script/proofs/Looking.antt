-- What a look at the last publication shows.
use Rattle.std.proofs.Common.{◌≡◌, ◌<◌, ℕ, List, All, get_or, Option, Some, None, IfSome, option_map, sym, ap, subst, ◌∙◌}
use Rattle.std.proofs.lemmas.List.Elements.{Contains-get_or}
use Rattle.trust_types.specs.declared.levels.Level.{Level}
use Rattle.trust_types.specs.declared.records.Record.{Record}
use Rattle.trust_types.specs.Graph.{Certificates}
use Rattle.trust_types.specs.Kept.{upto}
use Rattle.trust_types.specs.Proven.{Lists}
use Rattle.trust_types.specs.Roster.{IsRoster}
use Rattle.trust_types.specs.Tables.{Table}
use Rattle.frozen.specs.Revision.{Revision, certificates}
use Rattle.roster_form.specs.Bounded.{IsBounded}
use Rattle.roster_form.specs.Candidates.{IsSound, lists_at}
use Rattle.roster_form.specs.declared.publications.Publication.{Publication}
use Rattle.site_history.specs.Histories.{Published, History, records, last_published}
use Rattle.site_history.specs.Held.{served_at}
use Rattle.site_history.specs.Legal.{IsFrozenOf, StandsFor}
use Rattle.site_state.proofs.Holding.{served-lists}
use Rattle.script.specs.Outputs.{shown_line, look_line}
use Rattle.script.specs.Runs.{IsRosterOf, HasRoster, PlaysLook}

-- a roster's accounts are accounts of the graph
pub among : (f : Revision) (level : Level) (r : Lists) → IsSound f level r → All (λ a. a < (certificates f).accounts) r.served
among f level r sound = λ k d inside. ((sound.proven.1.2.serves (get_or r.served k d)).1 (Contains-get_or r.served k d inside)).0

-- the lists of a grade that prove whom it serves over a graph of records give a roster of the records
shown_roster : (f : Revision) (level : Level) (o : Option Lists) (opening : Table) (k : List Record) → IsFrozenOf opening k f → IfSome o (IsSound f level)
    → IfSome (option_map (λ (r : Lists). r.served) o) (IsRosterOf opening k level)
shown_roster f level None opening k frozen is = tt
shown_roster f level (Some r) opening k frozen is = record {
  roster = subst (λ (z : Certificates × Table). IsRoster z.0 level z.1 r.served) (λ i. (frozen.graph i, frozen.table i)) is.roster;
  rises = is.proven.0.served;
  bounded = subst (λ (z : Certificates × Table). IsBounded z.0 level z.1 r.served) (λ i. (frozen.graph i, frozen.table i)) is.bounded;
}

pub look_shown : (h : History) (level : Level) (q : Publication) (p : Published) → last_published h ≡ Some p → StandsFor h.opening (records h) q p
    → PlaysLook h level (shown_line q.candidate.graph.names q.number q.revision level (option_map (λ (r : Lists). r.served) (lists_at q.candidate level)))
look_shown h level q p last stands =
    let served : served_at p level ≡ option_map (λ (r : Lists). r.served) (lists_at q.candidate level) =
    ap (λ (x : Published). served_at x level) stands.same ∙ served-lists q.number q.candidate level in
    let number : p.number ≡ q.number = ap (λ (x : Published). x.number) stands.same in
    let revision : p.revision ≡ q.revision = ap (λ (x : Published). x.revision) stands.same ∙ sym q.of_graph in (
      sym (ap (look_line h level) last ∙ (λ i. shown_line (sym stands.graph.names i) (number i) (revision i) level (served i))),
      subst (λ (o : Option Published). IfSome o (HasRoster h level)) (sym last)
          (subst (λ (o : Option (List ℕ)). IfSome o (IsRosterOf h.opening (upto (records h) p.revision) level)) (sym served)
          (shown_roster q.candidate.graph level (lists_at q.candidate level) h.opening (upto (records h) p.revision) stands.graph (stands.sound level))),
    )
