-- What is read from a link, and what is written to it.
use Rattle.std.specs.Prelude.{ℕ, ◌≡◌, ◌<◌, ◌≤◌, Bool, true, false, List, ◌++◌, take, length, Option, Some, None}
use Rattle.std.specs.Io.KnownBytes.{prepend_known, append_known, IsAtEnd}
use Rattle.outside.specs.Causes.{one_more}
use Rattle.outside_serving.specs.Links.{Line, Put}
use Rattle.outside_serving.specs.Words.{Pool, Drew}
use Rattle.http_requests.specs.declared.next.Next.TheVariants as next
use Rattle.http_requests.specs.declared.requests.Request.{Request as AnyRequest}
use Rattle.http_requests.specs.Requests.{IsRequest}
use Rattle.exchanges.specs.Exchanges.{Content, IsSent}
use Rattle.conversation.specs.declared.saying.Heard.{Heard}
use Rattle.conversation.specs.declared.saying.Heard.TheVariants as heard
use Rattle.conversation.specs.declared.linking.Why.{Why}
use Rattle.conversation.specs.declared.linking.Why.TheVariants as why

-- A read added n bytes behind these.
pub record Got (before now : Line) (rest more : List ℕ) (n : ℕ) : Type 0 where
  pub bytes : List ℕ
  pub long : length bytes ≡ n
  pub within : length more ≤ 81920
  pub grows : more ≡ rest ++ bytes
  pub read : before.left ≡ prepend_known bytes now.left
  pub written : now.written ≡ before.written
  pub faults : now.faults ≡ before.faults
  pub ended : n ≡ 0 → IsAtEnd now.left × (now.ends ≡ one_more before.ends)
  pub ends : 0 < n → now.ends ≡ before.ends

-- Reads added bytes behind these, and didn't make too many of them.
pub record Reads (before now : Line) (rest more : List ℕ) : Type 0 where
  pub bytes : List ℕ
  pub grows : more ≡ rest ++ bytes
  pub read : before.left ≡ prepend_known bytes now.left
  pub written : now.written ≡ before.written
  pub few : length rest ≤ 81920 → length more ≤ 81920

-- No call failed, and no read met the end.
abbrev pub IsQuiet : Line → Line → Type 0
IsQuiet before now = (now.faults ≡ before.faults) × (now.ends ≡ before.ends)

-- What was heard after reads up to these bytes.
abbrev pub HearsAs : Line → Line → List ℕ → Heard → Type 0
HearsAs before now more (heard.Request q used) = IsRequest more (next.Whole q used) × IsQuiet before now
HearsAs before now more (heard.Bad status) = IsRequest more (next.Bad status) × IsQuiet before now
HearsAs before now more heard.End = IsRequest more next.NeedMore × IsAtEnd now.left × (now.faults ≡ before.faults) × (now.ends ≡ one_more before.ends)
HearsAs before now more heard.Fault = (now.faults ≡ one_more before.faults) × (now.ends ≡ before.ends)
HearsAs before now more heard.NoMemory = IsQuiet before now

-- Only some of what was to be written was, and then a write failed.
pub record Stuck (before now : Line) (piece : List ℕ) : Type 0 where
  pub left : now.left ≡ before.left
  pub said : ℕ
  pub short : said < length piece
  pub written : now.written ≡ append_known before.written (take said piece)
  pub faults : now.faults ≡ one_more before.faults
  pub ends : now.ends ≡ before.ends

-- A response was written, or it wasn't for want of memory, or only a part of it was.
abbrev pub Delivers : Line → Line → AnyRequest → Option (List ℕ) → Content → ℕ → Option Why → Type 0
Delivers before now q token content moment None = (q.close ≡ false) × ((bytes : List ℕ) × IsSent q token content moment bytes × Put before now bytes)
Delivers before now q token content moment (Some why.Closed) = (q.close ≡ true) × ((bytes : List ℕ) × IsSent q token content moment bytes × Put before now bytes)
Delivers before now q token content moment (Some why.WriteFault) = (bytes : List ℕ) × IsSent q token content moment bytes × Stuck before now bytes
Delivers before now q token content moment (Some why.NoMemory) = now ≡ before
Delivers before now q token content moment (Some other) = ⊥

-- A word was drawn for a login, and none for another request.
abbrev pub DrawnFor : Bool → Pool → Pool → Option (List ℕ) → Type 0
DrawnFor true before now (Some word) = Drew before now word
DrawnFor true before now None = ⊥
DrawnFor false before now (Some word) = ⊥
DrawnFor false before now None = now ≡ before
