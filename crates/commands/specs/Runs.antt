-- What a run took from its source, what it came to, and what it wrote.
use Rattle.std.specs.Prelude.{ℕ, ◌≡◌, ◌≤◌, ◌+◌, ◌⊎◌, List, length, Option, Some, None}
use Rattle.std.specs.Io.KnownBytes.{append_known}
use Rattle.outside.specs.Bytes.{TakesAll, TakesCount, TakesAtMost, AppendsPart}
use Rattle.outside.specs.Causes.{one_more}
use Rattle.commands.specs.declared.command.Command.{Command}
use Rattle.commands.specs.declared.status.Status.{Status}
use Rattle.commands.specs.declared.status.Status.TheVariants.{WriteFault}
use Rattle.commands.specs.declared.outcome.Answer.{Answer}
use Rattle.commands.specs.declared.outcome.Outcome.{Outcome}
use Rattle.commands.specs.declared.outcome.Outcome.TheVariants.{Answered, Misused, TooLong, Unread, OutOfMemory}
use Rattle.commands.specs.Commands.{limit_of}
use Rattle.commands.specs.Outcomes.{status_of, text_of}
use Rattle.commands.specs.Answers.{Answers}

-- A source, by the bytes that it has left where it tells them, and by its counts of faults and of ends.
pub record Input : Type 0 where
  pub left : Option (List ℕ)
  pub faults : ℕ
  pub ends : ℕ

-- A sink, by the bytes that it holds where it tells them, and by its count of faults.
pub record Output : Type 0 where
  pub held : Option (List ℕ)
  pub faults : ℕ

-- These bytes, no more than the limit, were taken and are all: a read answered the end, and none failed.
pub record IsWholeInput (limit : ℕ) (before now : Input) (bytes : List ℕ) : Type 0 where
  pub taken : TakesAll before.left now.left bytes
  pub within : length bytes ≤ limit
  pub ended : now.ends ≡ one_more before.ends
  pub faultless : now.faults ≡ before.faults

-- What is done with at most so many bytes comes to, by what it took from the source and by what its answers say of them. Memory runs out before the
-- input's end was met, or after the whole input was read.
abbrev pub ComesWithin : ℕ → (List ℕ → Answer → Type 0) → Input → Input → Outcome → Type 0
ComesWithin limit Says before now (Answered answer) = (bytes : List ℕ) × IsWholeInput limit before now bytes × Says bytes answer
ComesWithin limit Says before now Misused = ⊥
ComesWithin limit Says before now TooLong = TakesCount before.left now.left (limit + 1) × (now.faults ≡ before.faults) × (now.ends ≡ before.ends)
ComesWithin limit Says before now Unread = TakesAtMost before.left now.left limit × (now.faults ≡ one_more before.faults) × (now.ends ≡ before.ends)
ComesWithin limit Says before now OutOfMemory =
    TakesAtMost before.left now.left limit × (now.faults ≡ before.faults) × ((now.ends ≡ before.ends) ⊎ ((bytes : List ℕ) × IsWholeInput limit before now bytes))

-- What a command comes to.
abbrev pub Comes : Command → Input → Input → Outcome → Type 0
Comes command before now outcome = ComesWithin (limit_of command) (Answers command) before now outcome

-- What the words come to. Where they are no command nothing is read.
abbrev pub ComesTo : Option Command → Input → Input → Outcome → Type 0
ComesTo None before now outcome = (outcome ≡ Misused) × (now ≡ before)
ComesTo (Some command) before now outcome = Comes command before now outcome

-- A text was written whole, and the status that goes with it answered; or a write failed, and a part of the text was written.
abbrev pub IsWritten : Status → List ℕ → Output → Output → Status → Type 0
IsWritten meant text before now status =
    ((status ≡ meant) × (now.held ≡ append_known before.held text) × (now.faults ≡ before.faults))
    ⊎ ((status ≡ WriteFault) × AppendsPart before.held now.held text × (now.faults ≡ one_more before.faults))

-- The outcome's text was written, and its status answered; or a write failed.
abbrev pub IsTold : Outcome → Output → Output → Status → Type 0
IsTold outcome before now status = IsWritten (status_of outcome) (text_of outcome) before now status
