-- One more request that is answered, more bytes, and a history that goes on.
use Rattle.std.proofs.Common.{◌≡◌, ℕ, ◌≤◌, List, [], ◌∷◌, ◌++◌, length, drop, refl, sym, ap, ◌∙◌, subst, append_assoc}
use Rattle.std.specs.List.{flat_map}
use Rattle.std.proofs.lemmas.List.{append-nil, drop-append-le}
use Rattle.std.proofs.lemmas.Grind.{flat_map-append}
use Rattle.http_requests.specs.declared.next.Next.TheVariants.{Whole}
use Rattle.http_requests.specs.Requests.{IsRequest}
use Rattle.http_requests.proofs.Asking.{is-stable, uses-some}
use Rattle.site_history.specs.Histories.{Entry as AnyEntry, History}
use Rattle.turn_book.specs.Seats.{StartsWith}
use Rattle.turn_book.proofs.Keeps.{starts_self}
use Rattle.exchanges.specs.declared.logs.Kind.{Kind}
use Rattle.exchanges.specs.declared.logs.Kind.TheVariants.{Entry, Prefix, Shown, Fixed}
use Rattle.exchanges.specs.Exchanges.{Answered, Answers, Follow, AreRequests, AreResponses, IsResponse}

-- a history that goes on where one ended that did so too
pub starts_twice : (h g f : History) → StartsWith h g → StartsWith g f → StartsWith h f
starts_twice h g f (more, h_is) (rest, g_is) = (
  rest ++ more,
  h_is ∙ (ap (λ (x : History). record x { entries = x.entries ++ more }) g_is ∙ ap (λ (es : List AnyEntry). record f { entries = es }) (append_assoc f.entries rest more)),
)

-- an answer to who has seen some of this is one to who has seen less
answers_earlier : (caller : ℕ) (before less : History) (a : Answered) (kind : Kind) → StartsWith before less → Answers caller before a kind → Answers caller less a kind
answers_earlier caller before less a (Entry place) s (site, e) = (
  site,
  record {
    act = e.act;
    reply = e.reply;
    history = e.history;
    is_act = e.is_act;
    begins = starts_twice e.history before less e.begins s;
    is_reply = e.is_reply;
    here = e.here;
    seen = e.seen;
    content = e.content;
  },
)
answers_earlier caller before less a (Prefix long) s (site, begins, is, tells) = (site, starts_twice a.seen before less begins s, is, tells)
answers_earlier caller before less a (Shown number) s (asks, begins, is, shows) = (asks, starts_twice a.seen before less begins s, is, shows)
answers_earlier caller before less a Fixed s (status, is, begins, content) = (status, is, starts_twice a.seen before less begins s, content)

-- what is answered by a history is answered by each one that begins with it
pub follow_later : (caller : ℕ) (before : History) (all : List Answered) (now later : History) → StartsWith later now → Follow caller before all now → Follow caller before all later
follow_later caller before [] now later s begins = starts_twice later now before s begins
follow_later caller before (a ∷ all) now later s (answers, others) = (answers, follow_later caller a.seen all now later s others)

-- one more is answered
pub follow_next : (caller : ℕ) (before : History) (all : List Answered) (now : History) (a : Answered) → Follow caller before all now → Answers caller now a a.kind → Follow caller before (all ++ a ∷ []) a.seen
follow_next caller before [] now a begins answers = (answers_earlier caller now before a a.kind begins answers, starts_self a.seen)
follow_next caller before (b ∷ all) now a (is, others) answers = (is, follow_next caller b.seen all now a others answers)

pub requests_more : (bytes more : List ℕ) (all : List Answered) (rest : List ℕ) → AreRequests bytes all rest → AreRequests (bytes ++ more) all (rest ++ more)
requests_more bytes more [] rest is = ap (λ (l : List ℕ). l ++ more) is
requests_more bytes more (a ∷ all) rest (asks, others) =
    let within : a.used ≤ length bytes = (uses-some bytes a.request a.used asks).1 in
    let same : drop a.used (bytes ++ more) ≡ drop a.used bytes ++ more = drop-append-le a.used bytes more within in (
      is-stable bytes more (Whole a.request a.used) (λ e. cc) asks,
      subst (λ (l : List ℕ). AreRequests l all (rest ++ more)) (sym same) (requests_more (drop a.used bytes) more all rest others),
    )

pub requests_next : (bytes : List ℕ) (all : List Answered) (rest : List ℕ) (a : Answered) → AreRequests bytes all rest → IsRequest rest (Whole a.request a.used) → AreRequests bytes (all ++ a ∷ []) (drop a.used rest)
requests_next bytes [] rest a is asks = (subst (λ (l : List ℕ). IsRequest l (Whole a.request a.used)) (sym is) asks, ap (drop a.used) is)
requests_next bytes (b ∷ all) rest a (is, others) asks = (is, requests_next (drop b.used bytes) all rest a others asks)

pub responses_next : (all : List Answered) (said : List ℕ) (a : Answered) (bytes : List ℕ) → AreResponses all said → IsResponse a bytes → AreResponses (all ++ a ∷ []) (said ++ bytes)
responses_next [] said a bytes is one = (bytes, [], one, refl, ap (λ (l : List ℕ). l ++ bytes) is ∙ sym (append-nil bytes))
responses_next (b ∷ all) said a bytes (first, more, is, others, parts) one =
    (first, more ++ bytes, is, responses_next all more a bytes others one, ap (λ (l : List ℕ). l ++ bytes) parts ∙ append_assoc first more bytes)

-- what a list of lists has at its end
pub flat_next : {X Y : Type 0} (f : X → List Y) (xs : List X) (x : X) → flat_map f (xs ++ x ∷ []) ≡ flat_map f xs ++ f x
flat_next f xs x = flat_map-append f xs (x ∷ []) ∙ ap (λ (l : List _). flat_map f xs ++ l) (append-nil (f x))
