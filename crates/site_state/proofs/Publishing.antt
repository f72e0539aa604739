-- A state with a publication more.
use Rattle.std.proofs.Common.{◌≡◌, ◌↔◌, ℕ, ◌+◌, ◌<◌, ◌≤◌, List, [], ◌∷◌, length, Option, Some, None, IsSome, IfSome, IsTrue, option_map, refl, rules, sym, ap, subst, arith, length-append}
use Rattle.std.specs.declared.sync.Arc.{Arc}
use Rattle.trust_types.specs.declared.levels.Level.{Level}
use Rattle.trust_types.specs.declared.levels.Level.TheVariants.{Observer, Apprentice, Journeyer, Master, Fellow, Warden, Elder}
use Rattle.trust_types.specs.declared.records.Record.{Record}
use Rattle.trust_types.specs.Graph.{Certificates}
use Rattle.trust_types.specs.Kept.{revision, upto, kept_certificates, table_in_force}
use Rattle.trust_types.specs.Proven.{Lists}
use Rattle.trust_types.specs.Roster.{IsRoster}
use Rattle.trust_types.specs.Tables.{Table, has_grade}
use Rattle.frozen.specs.Revision.{Revision, certificates}
use Rattle.roster_form.specs.Candidates.{Rosters, IsSound, lists_at}
use Rattle.roster_form.specs.declared.publications.Publication.{Publication}
use Rattle.site_history.specs.Histories.{Entry, Publish, History, Published, with_entry, places, records, publications, last_revision, published_of}
use Rattle.site_history.specs.Held.{served_at}
use Rattle.site_history.specs.Legal.{AreRostersOf, IsPublicationOf, IsFrozenOf, IsNewer, Suits, MayPublish}
use Rattle.site_history.proofs.Growing.{records-same, publications-more, last-more, texts-add, places-add}
use Rattle.site_history.proofs.Legality.{legal_add}
use Rattle.site_state.specs.declared.parts.Parts.{Parts}
use Rattle.site_state.specs.inner.States.{IsState, IsLastOf}
use Rattle.site_state.proofs.Holding.{served-lists}
use Rattle.site_state.proofs.Stating.{parts_stay}

-- what is known of each grade is known of each level
pub each_level : (P : Level → Type 0) → P Observer → P Apprentice → P Journeyer → P Master → P Fellow → P Warden → P Elder → (level : Level) → P level
each_level P o a j m f w e Observer = o
each_level P o a j m f w e Apprentice = a
each_level P o a j m f w e Journeyer = j
each_level P o a j m f w e Master = m
each_level P o a j m f w e Fellow = f
each_level P o a j m f w e Warden = w
each_level P o a j m f w e Elder = e

some-mapped : {A B : Type 0} (f : A → B) (o : Option A) → IsSome (option_map f o) ↔ IsSome o
some-mapped f None = (λ h. h, λ h. h)
some-mapped f (Some x) = (λ h. search rules, λ h. search rules)

through : {A B C : Type 0} → A ↔ B → B ↔ C → A ↔ C
through p q = (λ a. q.0 (p.0 a), λ c. p.1 (q.1 c))

roster-each : (f : Revision) (level : Level) (o : Option Lists) (g : Certificates) (table : Table) → certificates f ≡ g → f.caps ≡ table → IfSome o (IsSound f level)
    → IfSome (option_map (λ (r : Lists). r.served) o) (IsRoster g level table)
roster-each f level None g table graph caps is = tt
roster-each f level (Some r) g table graph caps is =
    subst (λ (z : Certificates × Table). IsRoster z.0 level z.1 r.served) (λ i. (graph i, caps i)) is.roster

-- a candidate over the graph of records has their rosters
pub rosters_of : (opening : Table) (k : List Record) (number : ℕ) (c : Rosters) → IsFrozenOf opening k c.graph
    → ((level : Level) → IsSome (lists_at c level) ↔ IsTrue (has_grade c.graph.caps level)) → ((level : Level) → IfSome (lists_at c level) (IsSound c.graph level))
    → AreRostersOf opening k (published_of number c)
rosters_of opening k number c frozen grades sound = record {
  grades = λ level.
      let one = subst (λ (o : Option (List ℕ)). IsSome o ↔ IsSome (lists_at c level)) (sym (served-lists number c level)) (some-mapped (λ (r : Lists). r.served) (lists_at c level)) in
      subst (λ (table : Table). IsSome (served_at (published_of number c) level) ↔ IsTrue (has_grade table level)) frozen.table (through one (grades level));
  each = λ level. subst (λ (o : Option (List ℕ)). IfSome o (IsRoster (kept_certificates k) level (table_in_force opening k))) (sym (served-lists number c level))
      (roster-each c.graph level (lists_at c level) (kept_certificates k) (table_in_force opening k) frozen.graph frozen.table (sound level));
}

-- a state with a publication more
pub state_published : {Z : Type 0} (h : History) (parts : Parts) (n t p caller number : ℕ) (last : Option (Arc Publication Z)) (c : Rosters) (shared : Arc Publication Z)
    → IsState h parts n t p last → Suits h.opening (records h) c → IsNewer (last_revision h) c.graph.number
    → ((level : Level) → IsSome (lists_at c level) ↔ IsTrue (has_grade c.graph.caps level)) → ((level : Level) → IfSome (lists_at c level) (IsSound c.graph level))
    → length (publications h) < 100000 → places h < 4000000 → number ≡ p + 1 → shared.value.number ≡ number → shared.value.candidate ≡ c
    → IsState (with_entry h (Publish caller (published_of number c))) parts (n + 1) t number (Some shared)
state_published h parts n t p caller number last c shared is suits newer grades sound few room next same_number same =
    let q : Published = published_of number c in
    let e : Entry = Publish caller q in
    let stay : records (with_entry h e) ≡ records h = records-same h e refl in
    let of : IsPublicationOf h.opening (records h) q = record { past = suits.past; rosters = rosters_of h.opening (upto (records h) c.graph.number) number c suits.graph grades sound } in
    let may : MayPublish h q = record { number = omega (arith, next, is.published_are); few = omega (arith, next, is.published_are); newer = newer; of_records = of } in
    record {
      legal = legal_add h e is.legal room (omega (arith, is.legal.few_texts)) may;
      parts_are = parts_stay h e parts refl refl is.parts_are;
      count_is = omega (arith, is.count_is, places-add h e);
      bytes_are = omega (arith, is.bytes_are, texts-add h e);
      published_are = omega (arith, next, is.published_are, ap length (publications-more h e q refl), length-append (publications h) (q ∷ []));
      few = omega (arith, next, is.published_are);
      last_is = subst (λ (z : ℕ × Rosters). IsLastOf (with_entry h e) z.0 z.1) (λ i. (sym same_number i, sym same i)) (record {
        published = last-more h e q refl;
        past = subst (λ (k : List Record). c.graph.number ≤ revision k) (sym stay) suits.past;
        graph = subst (λ (k : List Record). IsFrozenOf h.opening (upto k c.graph.number) c.graph) (sym stay) suits.graph;
        sound = sound;
      });
    }
