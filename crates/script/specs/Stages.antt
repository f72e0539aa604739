-- What a script is played on: a site, the actors, and the moment of acts.
use Rattle.std.specs.Prelude.{ℕ, ◌-◌, List, Option, Some, None, replicate, slice_set, slice_index_or}
use Rattle.frozen.specs.Revision.{Revision}
use Rattle.roster_form.specs.Candidates.{Rosters}
use Rattle.site_history.specs.Histories.{History}

-- What an actor has: the graph that it froze last, and the candidate that it found last and hasn't published yet.
pub record Holdings : Type 0 where
  pub kept : Option Revision
  pub candidate : Option Rosters

abbrev pub nothing_held : Holdings
nothing_held = record { kept = None; candidate = None }

-- The history of the site, what each actor has, in the order of their numbers, which count from 1, and the moment of acts.
pub record Stage : Type 0 where
  pub history : History
  pub actors : List Holdings
  pub moment : ℕ

abbrev pub stage_of : History → List Holdings → ℕ → Stage
stage_of history actors moment = record { history = history; actors = actors; moment = moment }

-- As a script begins: no actor has anything, and the moment is 0.
abbrev pub stage_at_first : History → Stage
stage_at_first history = stage_of history (replicate 64 nothing_held) 0

abbrev pub held_by : List Holdings → ℕ → Holdings
held_by actors n = slice_index_or actors (n - 1) nothing_held

abbrev pub with_held : List Holdings → ℕ → Holdings → List Holdings
with_held actors n held = slice_set actors (n - 1) held

-- The actor keeps a graph, in place of an earlier one.
abbrev pub with_kept : List Holdings → ℕ → Revision → List Holdings
with_kept actors n f = with_held actors n (record (held_by actors n) { kept = Some f })

-- The actor has a candidate, in place of an earlier one.
abbrev pub with_candidate : List Holdings → ℕ → Rosters → List Holdings
with_candidate actors n c = with_held actors n (record (held_by actors n) { candidate = Some c })

-- The actor's candidate is used up.
abbrev pub without_candidate : List Holdings → ℕ → List Holdings
without_candidate actors n = with_held actors n (record (held_by actors n) { candidate = None })
