-- For playing alone: what is known of the actors at all times.
use Rattle.std.specs.Prelude.{ℕ, ◌≡◌, ◌⊎◌, List, Option, Some, None, All, IfSome, length}
use Rattle.trust_types.specs.declared.records.Record.{Record}
use Rattle.trust_types.specs.Tables.{Table}
use Rattle.frozen.specs.Revision.{Revision}
use Rattle.roster_form.specs.Candidates.{Rosters, AreSound}
use Rattle.site_history.specs.Histories.{Entry, History, with_entry, records}
use Rattle.site_history.specs.Legal.{IsOfPast, Suits}
use Rattle.script.specs.Stages.{Holdings, held_by, with_held}

-- What an actor has suits the records.
pub record SuitsAll (opening : Table) (k : List Record) (held : Holdings) : Type 0 where
  pub kept : IfSome held.kept (IsOfPast opening k)
  pub candidate : IfSome held.candidate (Suits opening k)

pub record AreReady (h : History) (actors : List Holdings) : Type 0 where
  pub count : length actors ≡ 64
  pub each : All (SuitsAll h.opening (records h)) actors

-- At most one entry was added.
abbrev pub Grows : History → History → Type 0
Grows h after = (after ≡ h) ⊎ ((e : Entry) × (after ≡ with_entry h e))

-- A solve of the graph that an actor keeps finds its rosters, which are its candidate then, and gives its revision; nothing where it keeps none.
abbrev pub FindsBy : Option Revision → Holdings → Option ℕ → Holdings → Type 0
FindsBy None before None after = after ≡ before
FindsBy None before (Some r) after = ⊥
FindsBy (Some f) before None after = ⊥
FindsBy (Some f) before (Some r) after = (c : Rosters) × (r ≡ f.number) × (c.graph ≡ f) × AreSound c × (after ≡ record before { candidate = Some c })

abbrev pub Finds : Holdings → Option ℕ → Holdings → Type 0
Finds before found after = FindsBy before.kept before found after

abbrev pub HasFound : List Holdings → ℕ → Option ℕ → List Holdings → Type 0
HasFound actors n found left = (held : Holdings) × Finds (held_by actors n) found held × (left ≡ with_held actors n held)
