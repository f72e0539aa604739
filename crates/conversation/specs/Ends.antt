-- How a conversation over a link ends.
use Rattle.std.specs.Prelude.{ℕ, ◌≡◌, ◌≢◌, ◌⊎◌, ◌<◌, ◌+◌, Bool, true, false, List, [], ◌∷◌, ◌++◌, length}
use Rattle.std.specs.Io.KnownBytes.{IsAtEnd}
use Rattle.outside.specs.Causes.{HasCause, one_more}
use Rattle.outside_serving.specs.Clocks.{Dial, IsShown}
use Rattle.outside_serving.specs.Links.{Line}
use Rattle.outside_serving.specs.Words.{ToldWords, Pool, after_draws}
use Rattle.http_requests.specs.declared.next.Next.TheVariants.{Whole, NeedMore, Bad}
use Rattle.http_requests.specs.declared.requests.Request.{Request}
use Rattle.http_requests.specs.Requests.{IsRequest}
use Rattle.http_pages.specs.Fixed.{fixed_response}
use Rattle.http_pages.specs.Responses.{bytes_of}
use Rattle.trust_types.specs.Kept.{IsMoment}
use Rattle.turn_book.specs.Seats.{Seated}
use Rattle.exchanges.specs.Asked.{is_login}
use Rattle.exchanges.specs.Exchanges.{Answered, AreResponses, drawn}
use Rattle.exchanges.specs.declared.logs.TheConstants.{MOST_EXCHANGES}
use Rattle.conversation.specs.declared.linking.Why.{Why}
use Rattle.conversation.specs.declared.linking.Why.TheVariants as why

-- What a conversation touches: the seat, and what the link, the clock and the source of words tell.
pub record World : Type 0 where
  pub seat : Seated
  pub line : Line
  pub dial : Dial
  pub pool : Pool

abbrev pub world : Seated → Line → Dial → Pool → World
world seat line dial pool = record { seat = seat; line = line; dial = dial; pool = pool }

-- It holds of each.
abbrev pub Each : {X : Type 0} → (X → Type 0) → List X → Type 0
Each P [] = Unit {0}
Each P (x ∷ xs) = P x × Each P xs

-- The request doesn't ask to close.
abbrev pub StaysOpen : Answered → Type 0
StaysOpen a = a.request.close ≡ false

-- The last request asked to close.
abbrev pub EndsClosing : List Answered → Type 0
EndsClosing all = (others : List Answered) × (last : Answered) × (all ≡ others ++ last ∷ []) × (last.request.close ≡ true)

-- The response to what is no request that is taken, at a moment that the clock shows. It says that the link is closed.
abbrev pub IsRefused : World → ℕ → List ℕ → Type 0
IsRefused before status page = (moment : ℕ) × IsMoment moment × IsShown before.dial.shows moment × (page ≡ bytes_of (fixed_response status) true false moment)

-- Some of these bytes, from the first on, and not all.
abbrev pub IsPartOf : List ℕ → List ℕ → Type 0
IsPartOf said whole = (missing : List ℕ) × (missing ≢ []) × (whole ≡ said ++ missing)

-- All responses were written, and no read met the end.
pub record AreSaid (before now : World) (said : List ℕ) (all : List Answered) : Type 0 where
  pub responses : AreResponses all said
  pub ends : now.line.ends ≡ before.line.ends

-- All responses were written, no request asked to close, and there is room for another.
pub record IsOpen (said : List ℕ) (all : List Answered) : Type 0 where
  pub responses : AreResponses all said
  pub stays : Each StaysOpen all
  pub few : length all < MOST_EXCHANGES

-- The same, and then a read met the end.
pub record IsAtItsEnd (before now : World) (said : List ℕ) (all : List Answered) : Type 0 where
  pub is_open : IsOpen said all
  pub ends : now.line.ends ≡ one_more before.line.ends
  pub nothing : IsAtEnd now.line.left

-- The same, and no read met the end.
pub record IsUnderWay (before now : World) (said : List ℕ) (all : List Answered) : Type 0 where
  pub is_open : IsOpen said all
  pub ends : now.line.ends ≡ before.line.ends

-- The responses to all requests but the last were written.
abbrev pub LacksLast : List ℕ → List Answered → Type 0
LacksLast said all = (others : List Answered) × (last : Answered) × (all ≡ others ++ last ∷ []) × AreResponses others said

-- What was to be written where a write failed: the responses, or those and the page for what is no request.
abbrev pub WasToSay : World → List ℕ → List Answered → List ℕ → Type 0
WasToSay before rest all whole =
    AreResponses all whole
    ⊎ ((status : ℕ) × (first page : List ℕ) × IsRequest rest (Bad status) × AreResponses all first × IsRefused before status page × (whole ≡ first ++ page))

-- What came is to be answered: it begins with a request, or is none that is taken.
abbrev pub NeedsMoment : List ℕ → Type 0
NeedsMoment rest = ((q : Request) × (used : ℕ) × IsRequest rest (Whole q used)) ⊎ ((status : ℕ) × IsRequest rest (Bad status))

-- It begins with a login.
abbrev pub NeedsToken : List ℕ → Type 0
NeedsToken rest = (q : Request) × (used : ℕ) × IsRequest rest (Whole q used) × (is_login q.route ≡ true)

-- What each end says of the answered requests, of what was written, and of the rest of what was read.
abbrev pub Ends : World → World → List ℕ → List ℕ → List Answered → Why → Type 0
Ends before now rest said all why.Closed =
    ((rest ≡ []) × IsAtItsEnd before now said all)
    ⊎ (EndsClosing all × AreSaid before now said all)
Ends before now rest said all why.CutShort = (rest ≢ []) × IsRequest rest NeedMore × IsAtItsEnd before now said all
Ends before now rest said all why.Limit = (length all ≡ MOST_EXCHANGES) × Each StaysOpen all × AreSaid before now said all
Ends before now rest said all (why.Bad status) =
    IsRequest rest (Bad status) × ((first page : List ℕ) × (said ≡ first ++ page) × IsRefused before status page × IsUnderWay before now first all)
Ends before now rest said all why.ReadFault = IsUnderWay before now said all
Ends before now rest said all why.WriteFault =
    (now.line.ends ≡ before.line.ends) × ((whole : List ℕ) × WasToSay before rest all whole × IsPartOf said whole)
Ends before now rest said all why.ClockFault = NeedsMoment rest × IsUnderWay before now said all
Ends before now rest said all why.EntropyFault = NeedsToken rest × IsUnderWay before now said all
Ends before now rest said all why.NoMemory = (now.line.ends ≡ before.line.ends) × (AreResponses all said ⊎ LacksLast said all)

-- The words that are left are those behind the tokens of the answered requests. Where memory ran out, one more may have been drawn, for a login that then wasn't answered.
abbrev pub IsDrawn : ToldWords → ToldWords → List ℕ → List Answered → Why → Type 0
IsDrawn before now rest all why.NoMemory =
    (now ≡ after_draws (length (drawn all)) before) ⊎ (NeedsToken rest × (now ≡ after_draws (length (drawn all) + 1) before))
IsDrawn before now rest all other = now ≡ after_draws (length (drawn all)) before

-- The object whose fault an end is has counted one fault, and no other has.
abbrev pub is_of_link : Why → Bool
is_of_link why.ReadFault = true
is_of_link why.WriteFault = true
is_of_link other = false

abbrev pub is_of_clock : Why → Bool
is_of_clock why.ClockFault = true
is_of_clock other = false

abbrev pub is_of_entropy : Why → Bool
is_of_entropy why.EntropyFault = true
is_of_entropy other = false

pub record HasCauses (before now : World) (why : Why) : Type 0 where
  pub link : HasCause before.line.faults now.line.faults (is_of_link why)
  pub clock : HasCause before.dial.faults now.dial.faults (is_of_clock why)
  pub entropy : HasCause before.pool.faults now.pool.faults (is_of_entropy why)
