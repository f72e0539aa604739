-- What became of a round of work through a seat.
use Rattle.std.specs.Prelude.{ℕ, Bool, true, false, ◌≡◌, ◌≤◌, ◌+◌, ◌⊎◌, List, [], ◌∷◌, ◌++◌, length, take, Option, option_map}
use Rattle.trust_types.specs.Kept.{revision}
use Rattle.roster_form.specs.Candidates.{Rosters}
use Rattle.site_history.specs.declared.faults.FreezeFault.{FreezeFault}
use Rattle.site_history.specs.declared.faults.FreezeFault.TheVariants as freeze
use Rattle.site_history.specs.declared.faults.PublishFault.{PublishFault}
use Rattle.site_history.specs.declared.faults.PublishFault.TheVariants as publish
use Rattle.site_history.specs.Answers.{FreezeRefuses, PublishRefuses}
use Rattle.site_history.specs.Histories.{History, Freeze, Publish, published_of, publications, records}
use Rattle.turn_book.specs.Seats.{Seated, Looks, Adds}
use Rattle.workers.specs.declared.gate.RoundStep.{RoundStep}
use Rattle.workers.specs.declared.gate.RoundStep.TheVariants as step
use Rattle.workers.specs.declared.rounds.Round.{Round}
use Rattle.workers.specs.declared.rounds.Round.TheVariants.{Published, Stale, Same, HistoryFull, PublicationsFull, Stopped, NoMemory}

-- The seat froze the site at this revision, the newest then. It made no other entry.
pub record Froze (s : Seated) (r : ℕ) (t : Seated) : Type 0 where
  pub before : History
  pub newest : r ≡ revision (records before)
  pub adds : Adds s before (Freeze s.low r) t

-- The seat made the publication of this number, of rosters over the graph of this revision. It made no other entry.
pub record PublishedOnce (s : Seated) (r k : ℕ) (t : Seated) : Type 0 where
  pub before : History
  pub rosters : Rosters
  pub of_revision : rosters.graph.number ≡ r
  pub next : k ≡ length (publications before) + 1
  pub adds : Adds s before (Publish s.low (published_of k rosters)) t

-- The seat made no entry, and what it has seen refuses a freeze.
pub record NotFrozen (s : Seated) (fault : FreezeFault) (t : Seated) : Type 0 where
  pub looks : Looks s t
  pub refused : FreezeRefuses t.seen fault

-- The seat made no entry, and what it has seen refuses the publication of rosters of this revision.
pub record NotPublished (s : Seated) (r : ℕ) (fault : PublishFault) (t : Seated) : Type 0 where
  pub looks : Looks s t
  pub refused : PublishRefuses t.seen r fault

-- The seat froze the site, and of what it was then, and of the revision, this holds.
abbrev pub AfterFreeze : Seated → (Seated → ℕ → Type 0) → Type 0
AfterFreeze s P = (m : Seated) × (r : ℕ) × Froze s r m × P m r

-- The seat made no entry but that it froze the site, or not even that.
abbrev pub FreezesAtMost : Seated → Seated → Type 0
FreezesAtMost s t = Looks s t ⊎ AfterFreeze s (λ m r. Looks m t)

-- What a round came to, from what the seat was to what it is: one freeze and then one publication of that revision; or what refused the one
-- or the other. A round that was stopped, or that found no memory, made no publication.
abbrev pub IsRound : Seated → Seated → Round → Type 0
IsRound s t (Published k) = AfterFreeze s (λ m r. PublishedOnce m r k t)
IsRound s t (Stale last) = AfterFreeze s (λ m r. NotPublished m r (publish.Stale last) t)
IsRound s t (Same r) = NotFrozen s (freeze.Same r) t
IsRound s t HistoryFull = NotFrozen s freeze.HistoryFull t ⊎ AfterFreeze s (λ m r. NotPublished m r publish.HistoryFull t)
IsRound s t PublicationsFull = AfterFreeze s (λ m r. NotPublished m r publish.PublicationsFull t)
IsRound s t Stopped = FreezesAtMost s t
IsRound s t NoMemory = FreezesAtMost s t

abbrev pub is_stopped : Round → Bool
is_stopped (Published k) = false
is_stopped (Stale last) = false
is_stopped (Same r) = false
is_stopped HistoryFull = false
is_stopped PublicationsFull = false
is_stopped Stopped = true
is_stopped NoMemory = false

-- The steps of a round, in order.
abbrev pub steps : List RoundStep
steps = step.Freeze ∷ step.Solve ∷ step.Publish ∷ []

-- Before how many of its steps a round asks the gate.
abbrev pub MayAsk : Round → ℕ → Type 0
MayAsk (Published k) n = n ≡ 3
MayAsk (Stale last) n = n ≡ 3
MayAsk (Same r) n = n ≡ 1
MayAsk HistoryFull n = (n ≡ 1) ⊎ (n ≡ 3)
MayAsk PublicationsFull n = n ≡ 3
MayAsk Stopped n = (1 ≤ n) × (n ≤ 3)
MayAsk NoMemory n = (1 ≤ n) × (n ≤ 3)

-- A round asked the gate for its first steps, each once and in order, where the gate tells it.
abbrev pub Asks : Option (List RoundStep) → Option (List RoundStep) → Round → Type 0
Asks before now round = (n : ℕ) × MayAsk round n × (now ≡ option_map (λ l. l ++ take n steps) before)
