-- What each line of a script comes to, and the run of all its lines. Each line adds one entry to the history at most, and gives one line of output.
-- Where memory runs out there is no line: the run has ended before it.
use Rattle.std.specs.Prelude.{ℕ, ◌≡◌, ◌≢◌, List, [], ◌∷◌, ◌++◌, Option, Some, None, Result, Ok, Err, IfSome, codes, decimal}
use Rattle.std.specs.List.Sorted.{IsStrictlyIncreasing}
use Rattle.trust_types.specs.declared.levels.Level.{Level}
use Rattle.trust_types.specs.declared.records.Record.{Record}
use Rattle.trust_types.specs.Kept.{kept_certificates, table_in_force, revision, upto}
use Rattle.trust_types.specs.Roster.{IsRoster}
use Rattle.trust_types.specs.Tables.{Table}
use Rattle.frozen.specs.Revision.{Revision}
use Rattle.roster_form.specs.Bounded.{IsBounded}
use Rattle.roster_form.specs.Candidates.{Rosters, AreSound}
use Rattle.site_history.specs.declared.acts.Act.{Act}
use Rattle.site_history.specs.declared.faults.FreezeFault.{FreezeFault}
use Rattle.site_history.specs.declared.faults.FreezeFault.TheVariants as freeze
use Rattle.site_history.specs.declared.faults.PublishFault.{PublishFault}
use Rattle.site_history.specs.declared.faults.PublishFault.TheVariants as publish
use Rattle.site_history.specs.declared.replies.Reply.{Reply}
use Rattle.site_history.specs.declared.replies.Refusal.{Refusal}
use Rattle.site_history.specs.declared.replies.Refusal.TheVariants.{HistoryFull, TextFull, NoMemory}
use Rattle.site_history.specs.Answers.{IsReply, Refuses, entry_of, FreezeRefuses, PublishRefuses}
use Rattle.site_history.specs.Histories.{Freeze, Publish, History, Published, with_entry, records, last_published, last_revision, published_of}
use Rattle.site_history.specs.Held.{served_at}
use Rattle.site_history.specs.Legal.{IsFrozenOf, MayPublish}
use Rattle.site_history.specs.Words.{reply_words, refusal_words}
use Rattle.script_text.specs.declared.lines.ScriptLine.{ScriptLine}
use Rattle.script_text.specs.declared.lines.ScriptLine.TheVariants as line
use Rattle.script.specs.Stages.{Holdings, Stage, held_by, with_kept, with_candidate, without_candidate}
use Rattle.script.specs.Outputs.{look_line, level_line}

-- An act gets the reply that the history gives it, or a fault of the keeper in place of one that adds a record, and adds its entry, with caller 0.
-- Where the history or its texts are full there is no reply, and nothing is added.
abbrev pub Answers : History → Act → ℕ → Result Reply Refusal → History → List ℕ → Type 0
Answers h act moment (Ok reply) after out = IsReply h act reply × (after ≡ with_entry h (entry_of 0 act reply moment)) × (out ≡ reply_words reply)
Answers h act moment (Err HistoryFull) after out = Refuses h act HistoryFull × (after ≡ h) × (out ≡ refusal_words HistoryFull)
Answers h act moment (Err (TextFull total)) after out = Refuses h act (TextFull total) × (after ≡ h) × (out ≡ refusal_words (TextFull total))
Answers h act moment (Err NoMemory) after out = ⊥

abbrev pub PlaysAct : History → Act → ℕ → History → List ℕ → Type 0
PlaysAct h act moment after out = (answer : Result Reply Refusal) × Answers h act moment answer after out

-- A freeze by an actor gives the graph of the site as it is, and adds its entry; or it is refused, and nothing is added.
abbrev pub Freezes : History → ℕ → Result Revision FreezeFault → History → List ℕ → Type 0
Freezes h n (Ok f) after out =
    IsFrozenOf h.opening (records h) f × (last_revision h ≢ Some (revision (records h))) × (after ≡ with_entry h (Freeze n (revision (records h))))
    × (out ≡ codes "frozen " ++ decimal f.number)
Freezes h n (Err (freeze.Same r)) after out = FreezeRefuses h (freeze.Same r) × (after ≡ h) × (out ≡ codes "same " ++ decimal r)
Freezes h n (Err freeze.HistoryFull) after out = FreezeRefuses h freeze.HistoryFull × (after ≡ h) × (out ≡ codes "history full")
Freezes h n (Err freeze.NoMemory) after out = ⊥

-- The actor keeps the graph that a freeze gives.
abbrev pub kept_after : List Holdings → ℕ → Result Revision FreezeFault → List Holdings
kept_after actors n (Ok f) = with_kept actors n f
kept_after actors n (Err fault) = actors

abbrev pub PlaysFreeze : History → List Holdings → ℕ → History → List Holdings → List ℕ → Type 0
PlaysFreeze h actors n after left out = (outcome : Result Revision FreezeFault) × Freezes h n outcome after out × (left ≡ kept_after actors n outcome)

-- A solve finds the rosters of the graph that the actor keeps, each with the flow and the cut that prove it: they are its candidate.
abbrev pub Solves : List Holdings → ℕ → Option Revision → List Holdings → List ℕ → Type 0
Solves actors n None left out = (left ≡ actors) × (out ≡ codes "nothing")
Solves actors n (Some f) left out =
    (c : Rosters) × (c.graph ≡ f) × AreSound c × (left ≡ with_candidate actors n c) × (out ≡ codes "solved " ++ decimal f.number)

abbrev pub PlaysSolve : List Holdings → ℕ → List Holdings → List ℕ → Type 0
PlaysSolve actors n left out = Solves actors n (held_by actors n).kept left out

-- A candidate is published by an actor under the next number; or it is refused, and nothing is added.
abbrev pub Publishes : History → ℕ → Rosters → Result ℕ PublishFault → History → List ℕ → Type 0
Publishes h n c (Ok number) after out =
    MayPublish h (published_of number c) × (after ≡ with_entry h (Publish n (published_of number c)))
    × (out ≡ codes "published " ++ decimal number ++ codes " revision " ++ decimal c.graph.number)
Publishes h n c (Err (publish.Stale last)) after out = PublishRefuses h c.graph.number (publish.Stale last) × (after ≡ h) × (out ≡ codes "stale " ++ decimal last)
Publishes h n c (Err publish.PublicationsFull) after out = PublishRefuses h c.graph.number publish.PublicationsFull × (after ≡ h) × (out ≡ codes "publications full")
Publishes h n c (Err publish.HistoryFull) after out = PublishRefuses h c.graph.number publish.HistoryFull × (after ≡ h) × (out ≡ codes "history full")
Publishes h n c (Err publish.NoMemory) after out = ⊥

abbrev pub IsPublished : History → ℕ → Rosters → History → List ℕ → Type 0
IsPublished h n c after out = (outcome : Result ℕ PublishFault) × Publishes h n c outcome after out

-- An actor publishes the candidate that it has, which is used up, whatever comes of it.
abbrev pub PublishesHeld : History → List Holdings → ℕ → Option Rosters → History → List Holdings → List ℕ → Type 0
PublishesHeld h actors n None after left out = (after ≡ h) × (left ≡ actors) × (out ≡ codes "nothing")
PublishesHeld h actors n (Some c) after left out = IsPublished h n c after out × (left ≡ without_candidate actors n)

abbrev pub PlaysPublish : History → List Holdings → ℕ → History → List Holdings → List ℕ → Type 0
PlaysPublish h actors n after left out = PublishesHeld h actors n (held_by actors n).candidate after left out

-- The accounts are a roster of the records: those that a greatest flow with served conduits over their certificates serves, in order. Of each set of
-- accounts without a seed at most its bound is among them.
pub record IsRosterOf (opening : Table) (k : List Record) (level : Level) (served : List ℕ) : Type 0 where
  pub roster : IsRoster (kept_certificates k) level (table_in_force opening k) served
  pub rises : IsStrictlyIncreasing served
  pub bounded : IsBounded (kept_certificates k) level (table_in_force opening k) served

-- What a publication has at a level is a roster of the records up to its revision.
abbrev pub HasRoster : History → Level → Published → Type 0
HasRoster h level p = IfSome (served_at p level) (IsRosterOf h.opening (upto (records h) p.revision) level)

-- A look shows the last publication, whatever was frozen or found since.
abbrev pub PlaysLook : History → Level → List ℕ → Type 0
PlaysLook h level out = (out ≡ look_line h level (last_published h)) × IfSome (last_published h) (HasRoster h level)

-- From one stage a line leads to another, and gives this output.
abbrev pub Plays : Stage → ScriptLine → Stage → List ℕ → Type 0
Plays s (line.Moment m) t out = (t.history ≡ s.history) × (t.actors ≡ s.actors) × (t.moment ≡ m) × (out ≡ codes "moment " ++ decimal m)
Plays s (line.Act act) t out = PlaysAct s.history act s.moment t.history out × (t.actors ≡ s.actors) × (t.moment ≡ s.moment)
Plays s (line.Freeze n) t out = PlaysFreeze s.history s.actors n t.history t.actors out × (t.moment ≡ s.moment)
Plays s (line.Solve n) t out = (t.history ≡ s.history) × PlaysSolve s.actors n t.actors out × (t.moment ≡ s.moment)
Plays s (line.Publish n) t out = PlaysPublish s.history s.actors n t.history t.actors out × (t.moment ≡ s.moment)
Plays s (line.Look n level) t out = (t ≡ s) × PlaysLook s.history level out
Plays s (line.Level word) t out = (t ≡ s) × (out ≡ level_line s.history word)

-- Lines played one after another, each with its output line, which ends with LF.
abbrev pub Run : List ScriptLine → Stage → Stage → List ℕ → Type 0
Run [] s t out = (t ≡ s) × (out ≡ [])
Run (x ∷ lines) s t out = (next : Stage) × (answer others : List ℕ) × Plays s x next answer × Run lines next t others × (out ≡ answer ++ codes "\n" ++ others)

-- The lines led from a stage to this history, and their output was added to a text.
abbrev pub RunsTo : List ScriptLine → Stage → History → List ℕ → List ℕ → Type 0
RunsTo lines s after before now = (t : Stage) × (added : List ℕ) × Run lines s t added × (t.history ≡ after) × (now ≡ before ++ added)

-- So did a first part of them.
abbrev pub PartRunsTo : List ScriptLine → Stage → History → List ℕ → List ℕ → Type 0
PartRunsTo lines s after before now = (first rest : List ScriptLine) × (lines ≡ first ++ rest) × RunsTo first s after before now
