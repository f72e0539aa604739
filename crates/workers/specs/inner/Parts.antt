-- What became of the part of a round that follows its freeze. The crate's own functions alone speak of it.
use Rattle.std.specs.Prelude.{ℕ, ◌≡◌, ◌⊎◌, List, Option}
use Rattle.site_history.specs.declared.faults.PublishFault.TheVariants as publish
use Rattle.turn_book.specs.Seats.{Seated, Looks}
use Rattle.workers.specs.declared.gate.RoundStep.{RoundStep}
use Rattle.workers.specs.declared.gate.RoundStep.TheVariants as step
use Rattle.workers.specs.declared.rounds.Round.{Round}
use Rattle.workers.specs.declared.rounds.Round.TheVariants.{Published, Stale, Same, HistoryFull, PublicationsFull, Stopped, NoMemory}
use Rattle.workers.specs.Gates.{one_asked}
use Rattle.workers.specs.Rounds.{PublishedOnce, NotPublished}

abbrev pub IsAfterFreeze : Seated → ℕ → Seated → Round → Type 0
IsAfterFreeze m r t (Published k) = PublishedOnce m r k t
IsAfterFreeze m r t (Stale last) = NotPublished m r (publish.Stale last) t
IsAfterFreeze m r t (Same last) = ⊥
IsAfterFreeze m r t HistoryFull = NotPublished m r publish.HistoryFull t
IsAfterFreeze m r t PublicationsFull = NotPublished m r publish.PublicationsFull t
IsAfterFreeze m r t Stopped = Looks m t
IsAfterFreeze m r t NoMemory = Looks m t

-- Whether a round may end before it asks to publish.
abbrev pub MayEndEarly : Round → Type 0
MayEndEarly (Published k) = ⊥
MayEndEarly (Stale last) = ⊥
MayEndEarly (Same last) = ⊥
MayEndEarly HistoryFull = ⊥
MayEndEarly PublicationsFull = ⊥
MayEndEarly Stopped = Unit {0}
MayEndEarly NoMemory = Unit {0}

-- It asked the gate to solve, and then, unless it ended early, to publish.
abbrev pub AsksBehind : Option (List RoundStep) → Option (List RoundStep) → Round → Type 0
AsksBehind before now round = (MayEndEarly round × (now ≡ one_asked before step.Solve)) ⊎ (now ≡ one_asked (one_asked before step.Solve) step.Publish)
