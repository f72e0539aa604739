-- A conversation over a link: what was read and written, and which answers of a site's one history the responses are.
use Rattle.std.specs.Prelude.{ℕ, ◌≡◌, ◌≤◌, List, [], ◌∷◌, ◌++◌, length, map, slice_get, Some}
use Rattle.std.specs.Io.KnownBytes.{prepend_known, append_known}
use Rattle.outside_serving.specs.Clocks.{IsShown}
use Rattle.outside_serving.specs.Words.{ToldWords, IsWord}
use Rattle.trust_types.specs.Kept.{IsMoment}
use Rattle.turn_book.specs.Seats.{mine}
use Rattle.exchanges.specs.declared.logs.Exchange.{Exchange}
use Rattle.exchanges.specs.Exchanges.{Answered, AreRequests, Follow, HasToken, drawn, entries_of, logged}
use Rattle.conversation.specs.declared.linking.Why.{Why}
use Rattle.conversation.specs.Ends.{World, Each, StaysOpen, Ends, HasCauses, IsDrawn}

-- None but the last request asked to close.
abbrev pub OnlyLastCloses : List Answered → Type 0
OnlyLastCloses [] = Unit {0}
OnlyLastCloses (a ∷ []) = Unit {0}
OnlyLastCloses (a ∷ b ∷ others) = StaysOpen a × OnlyLastCloses (b ∷ others)

-- Tokens are the words of a source, from the first on, where it tells them.
abbrev pub AreWords : ToldWords → List (List ℕ) → Type 0
AreWords words tokens = (k : ℕ) (token : List ℕ) → slice_get tokens k ≡ Some token → IsWord words k token

-- What was exchanged so far: the answered requests, which were read one behind another, with the rest that was read, no more than the longest request may have; the bytes that were written; and the log.
pub record Exchanged (before now : World) (exchanges : List Exchange) (rest said : List ℕ) (all : List Answered) : Type 0 where
  -- What was read is the requests and the rest, and none but the last request asked to close.
  pub bytes : List ℕ
  pub read : before.line.left ≡ prepend_known bytes now.line.left
  pub requests : AreRequests bytes all rest
  pub closing : OnlyLastCloses all
  pub few : length rest ≤ 81920
  -- What was written, where the link tells it.
  pub written : now.line.written ≡ append_known before.line.written said
  -- The log has a line for each.
  pub log : exchanges ≡ map logged all
  -- Each was answered by a history that begins with the one before it, and the seat has seen them all.
  pub follow : Follow before.seat.low before.seat.seen all now.seat.seen
  -- Of what the seat has seen, the entries that it made are those that it had made before and those that the log names.
  pub made : mine now.seat ≡ mine before.seat ++ entries_of all
  -- Each login has a token of its own, in order the words that were drawn.
  pub tokens : Each HasToken all
  pub words : AreWords before.pool.words (drawn all)
  -- Each was answered at a moment that the clock shows.
  pub moments : Each (λ a. IsMoment a.moment × IsShown before.dial.shows a.moment) all
  pub shows : now.dial.shows ≡ before.dial.shows

-- What was exchanged when a conversation ended, and how it ended.
pub record Conversed (before now : World) (log : List Exchange) (why : Why) : Type 0 where
  pub rest : List ℕ
  pub said : List ℕ
  pub all : List Answered
  pub exchanged : Exchanged before now log rest said all
  pub causes : HasCauses before now why
  pub ends : Ends before now rest said all why
  pub draws : IsDrawn before.pool.words now.pool.words rest all why
