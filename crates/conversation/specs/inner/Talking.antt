-- A conversation while it goes on, and once it has ended.
use Rattle.std.specs.Prelude.{ℕ, ◌≡◌, List, length, Option, Some, None}
use Rattle.outside_serving.specs.Words.{after_draws}
use Rattle.site_history.specs.Legal.{IsLegal}
use Rattle.turn_book.specs.Seats.{Seated, IsSame, StartsWith}
use Rattle.exchanges.specs.declared.logs.Exchange.{Exchange}
use Rattle.exchanges.specs.Exchanges.{Answered, AreResponses, drawn}
use Rattle.conversation.specs.declared.linking.Why.{Why}
use Rattle.conversation.specs.Ends.{World, Each, StaysOpen}
use Rattle.conversation.specs.Conversations.{Exchanged, Conversed}

-- The seat is the same, and has seen a legal history that begins with what it had seen.
pub record Grows (s t : Seated) : Type 0 where
  pub same : IsSame s t
  pub legal : IsLegal t.seen
  pub begins : StartsWith t.seen s.seen

-- Every answer so far was written in full, no request asked to close, no call failed, and no read met the end.
pub record Talking (before now : World) (log : List Exchange) (rest : List ℕ) : Type 0 where
  pub said : List ℕ
  pub all : List Answered
  pub grows : Grows before.seat now.seat
  pub exchanged : Exchanged before now log rest said all
  pub responses : AreResponses all said
  pub stays : Each StaysOpen all
  pub draws : now.pool.words ≡ after_draws (length (drawn all)) before.pool.words
  pub ends : now.line.ends ≡ before.line.ends
  pub link : now.line.faults ≡ before.line.faults
  pub clock : now.dial.faults ≡ before.dial.faults
  pub entropy : now.pool.faults ≡ before.pool.faults

pub record Ended (before now : World) (log : List Exchange) (why : Why) : Type 0 where
  pub grows : Grows before.seat now.seat
  pub conversed : Conversed before now log why

-- After a request: the conversation goes on, or has ended.
abbrev pub Goes : World → World → List Exchange → List ℕ → Option Why → Type 0
Goes before now log rest None = Talking before now log rest
Goes before now log rest (Some why) = Ended before now log why
