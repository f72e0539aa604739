-- What the bytes that a client sent so far ask for.
use Rattle.std.specs.Prelude.{ℕ, ◌≡◌, ◌+◌, ◌==◌, ◌||◌, nat_lt, List, length, take, drop, Option, Some, None, Result, Ok, Err, if◌then◌else◌, codes}
use Rattle.std.specs.List.{before_first}
use Rattle.std.specs.Str.{bytes_eq}
use Rattle.http_heads.specs.declared.fronts.Front.{Front}
use Rattle.http_heads.specs.declared.fronts.Front.TheVariants.{TooLong, Unfinished, Ended}
use Rattle.http_heads.specs.HeadEnd.{front_of}
use Rattle.http_heads.specs.Heads.{Head, IsHeadOf}
use Rattle.http_heads.specs.Bodies.{body_length}
use Rattle.http_heads.specs.Cookies.{session}
use Rattle.http_heads.specs.Closing.{closes}
use Rattle.http_requests.specs.declared.routes.Route.{Route}
use Rattle.http_requests.specs.declared.routes.Route.TheVariants.{NotImplemented}
use Rattle.http_requests.specs.declared.requests.Request.{Request}
use Rattle.http_requests.specs.declared.next.Next.{Next}
use Rattle.http_requests.specs.declared.next.Next.TheVariants.{Whole, NeedMore, Bad, NoMemory}
use Rattle.http_requests.specs.Pages.{page_route}
use Rattle.http_requests.specs.Actions.{action_route}

-- The target up to its first question mark.
abbrev pub path_of : List ℕ → List ℕ
path_of target = before_first (λ byte. byte == 63) target

-- HEAD is read as GET. Methods are written in upper case.
abbrev pub route_of : Head → List ℕ → Route
route_of head body =
    if bytes_eq head.method (codes "GET") || bytes_eq head.method (codes "HEAD") then page_route (path_of head.target) else
    if bytes_eq head.method (codes "POST") then action_route (path_of head.target) body else NotImplemented

-- The request that a head and its body are.
abbrev pub request_of : Head → List ℕ → Request
request_of head body = record {
  route = route_of head body;
  session = session head.fields;
  close = closes head;
  bare = bytes_eq head.method (codes "HEAD");
}

-- What a head of so many bytes asks for, by the length of its body or the status of the refusal: it is refused; the body isn't all there; or
-- it is a request, with the number of bytes that it has.
abbrev pub with_body : Head → ℕ → List ℕ → Result ℕ ℕ → Next
with_body head end rest (Err status) = Bad status
with_body head end rest (Ok n) = if nat_lt (length rest) n then NeedMore else Whole (request_of head (take n rest)) (end + n)

-- Bytes that are no head of the grammar are refused.
abbrev pub after_head : Option Head → ℕ → List ℕ → Next
after_head None end rest = Bad 400
after_head (Some head) end rest = with_body head end rest (body_length head)

-- By what the bytes begin with: a head that is too long is refused; one whose end isn't there wants more bytes; one that has ended is, in all
-- its bytes, a head of the grammar or none.
abbrev pub IsRequestAfter : Front → List ℕ → Next → Type 0
IsRequestAfter TooLong bytes next = next ≡ Bad 431
IsRequestAfter Unfinished bytes next = next ≡ NeedMore
IsRequestAfter (Ended end) bytes next = (head : Option Head) × IsHeadOf (take end bytes) head × (next ≡ after_head head end (drop end bytes))

-- What the bytes so far ask for.
abbrev pub IsRequest : List ℕ → Next → Type 0
IsRequest bytes next = IsRequestAfter (front_of bytes) bytes next

-- What a call may answer. It runs out of memory only in place of a whole request.
abbrev pub IsAnswer : List ℕ → Next → Type 0
IsAnswer bytes NoMemory = (request : Request) × (used : ℕ) × IsRequest bytes (Whole request used)
IsAnswer bytes (Whole request used) = IsRequest bytes (Whole request used)
IsAnswer bytes NeedMore = IsRequest bytes NeedMore
IsAnswer bytes (Bad status) = IsRequest bytes (Bad status)
