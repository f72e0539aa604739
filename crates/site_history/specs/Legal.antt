-- Which histories are legal: what a site was opened with is well kept, each act has the one reply that the history before it gives, and
-- each publication is one of what was kept by then.
use Rattle.std.specs.Prelude.{ℕ, ◌≡◌, ◌≢◌, ◌<◌, ◌≤◌, ◌+◌, List, ◌∷◌, ◌++◌, Option, Some, None, ◌↔◌, IsTrue, IsSome, IfSome, length}
use Rattle.trust_types.specs.declared.records.Record.{Record}
use Rattle.trust_types.specs.declared.levels.Level.{Level}
use Rattle.trust_types.specs.Kept.{IsMoment, IsWellKept, accounts, kept_certificates, table_in_force, revision, upto}
use Rattle.trust_types.specs.Roster.{IsRoster}
use Rattle.trust_types.specs.Tables.{Table, has_grade}
use Rattle.frozen.specs.Revision.{Revision, certificates}
use Rattle.roster_form.specs.Candidates.{Rosters, IsSound, lists_at}
use Rattle.roster_form.specs.declared.publications.Publication.{Publication}
use Rattle.site_history.specs.Histories.{Published, published_of, Entry, Done, Freeze, Publish, KeeperFault, History, places, records, publications, last_revision}
use Rattle.site_history.specs.Held.{served_at}
use Rattle.site_history.specs.Texts.{texts}
use Rattle.site_history.specs.Replies.{judge}

-- How much a history may have: places, bytes of text, publications.
abbrev pub MOST_PLACES : ℕ
MOST_PLACES = 4000000

abbrev pub MOST_TEXTS : ℕ
MOST_TEXTS = 536870912

abbrev pub MOST_PUBLICATIONS : ℕ
MOST_PUBLICATIONS = 100000

-- The sets are rosters of the records, one for each grade of the table in force and for no other level: each has the accounts that a
-- greatest flow over the standing certificates serves at its level.
pub record AreRostersOf (opening : Table) (k : List Record) (p : Published) : Type 0 where
  pub grades : (level : Level) → IsSome (served_at p level) ↔ IsTrue (has_grade (table_in_force opening k) level)
  pub each : (level : Level) → IfSome (served_at p level) (IsRoster (kept_certificates k) level (table_in_force opening k))

-- A publication of these records: of a revision that there was, it has the rosters of the records up to it.
pub record IsPublicationOf (opening : Table) (k : List Record) (p : Published) : Type 0 where
  pub past : p.revision ≤ revision k
  pub rosters : AreRostersOf opening (upto k p.revision) p

-- A frozen graph is that of records: it has their revision, the table in force, the accounts' names, and what the metric reads of it is
-- what it reads of them.
pub record IsFrozenOf (opening : Table) (k : List Record) (f : Revision) : Type 0 where
  pub number : f.number ≡ revision k
  pub table : f.caps ≡ table_in_force opening k
  pub names : f.names ≡ accounts k
  pub graph : certificates f ≡ kept_certificates k

-- Above the last published revision, where there is one.
abbrev pub IsNewer : Option ℕ → ℕ → Type 0
IsNewer None r = Unit {0}
IsNewer (Some last) r = last < r

-- What a publication meets after a history: its number is the next, its revision is newer than the last one's, and its rosters are those of
-- the records up to it.
pub record MayPublish (h : History) (p : Published) : Type 0 where
  pub number : p.number ≡ length (publications h) + 1
  pub few : p.number ≤ MOST_PUBLICATIONS
  pub newer : IsNewer (last_revision h) p.revision
  pub of_records : IsPublicationOf h.opening (records h) p

-- What an entry meets after the history before it. That a keeper failed has its cause in the keeper's count.
abbrev pub Meets : History → Entry → Type 0
Meets h (Done caller act reply moment) = (reply ≡ judge h act) × IsMoment moment
Meets h (Freeze caller r) = (r ≡ revision (records h)) × (last_revision h ≢ Some r)
Meets h (Publish caller p) = MayPublish h p
Meets h (KeeperFault caller) = Unit {0}

pub record IsLegal (h : History) : Type 0 where
  pub well : IsWellKept h.opening h.opened
  pub short : places h ≤ MOST_PLACES
  pub few_texts : texts h ≤ MOST_TEXTS
  pub each : (before : List Entry) (e : Entry) (after : List Entry) → h.entries ≡ before ++ e ∷ after → Meets (record h { entries = before }) e

-- A graph of the records' past: that of the records up to its revision. It stays one, whatever records follow.
pub record IsOfPast (opening : Table) (k : List Record) (f : Revision) : Type 0 where
  pub past : f.number ≤ revision k
  pub graph : IsFrozenOf opening (upto k f.number) f

-- A candidate suits the records: its graph is one of their past.
abbrev pub Suits : Table → List Record → Rosters → Type 0
Suits opening k c = IsOfPast opening k c.graph

-- What holds a publication stands for it over the records: the number, the revision and the accounts are its own, the graph is that of the
-- records up to its revision, and the flow and the cut of each grade prove whom its roster has.
pub record StandsFor (opening : Table) (k : List Record) (q : Publication) (p : Published) : Type 0 where
  pub same : p ≡ published_of q.number q.candidate
  pub graph : IsFrozenOf opening (upto k p.revision) q.candidate.graph
  pub sound : (level : Level) → IfSome (lists_at q.candidate level) (IsSound q.candidate.graph level)
