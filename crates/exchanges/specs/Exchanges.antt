-- What a client that asks a site one request after another is answered.
use Rattle.std.specs.Prelude.{ℕ, ◌≡◌, ◌≢◌, List, [], ◌∷◌, ◌++◌, Option, Some, None, Result, Ok, Err, length, drop, is_some, option_to_list}
use Rattle.std.specs.List.{flat_map}
use Rattle.http_requests.specs.declared.requests.Request.{Request}
use Rattle.http_requests.specs.declared.next.Next.TheVariants.{Whole}
use Rattle.http_requests.specs.Requests.{IsRequest}
use Rattle.http_pages.specs.Responses.{Response, bytes_of}
use Rattle.http_pages.specs.Answers.{answer_response}
use Rattle.http_pages.specs.Views.{view_response}
use Rattle.http_pages.specs.Rosters.{AsksForRoster, IsShown}
use Rattle.http_pages.specs.Fixed.{fixed_response}
use Rattle.roster_cell.specs.Caches.{IsLatest}
use Rattle.roster_form.specs.declared.publications.Publication.{Publication}
use Rattle.site_history.specs.declared.acts.Act.{Act}
use Rattle.site_history.specs.declared.queries.Query.{Query}
use Rattle.site_history.specs.declared.replies.Reply.{Reply}
use Rattle.site_history.specs.declared.replies.Refusal.{Refusal}
use Rattle.site_history.specs.declared.replies.Refusal.TheVariants.{NoMemory}
use Rattle.site_history.specs.Answers.{IsReply, Refuses, entry_of}
use Rattle.site_history.specs.Histories.{History, places, publications, with_entry}
use Rattle.site_history.specs.Views.{Shown as ShownOf, shown}
use Rattle.turn_book.specs.Seats.{StartsWith}
use Rattle.exchanges.specs.declared.logs.Kind.{Kind}
use Rattle.exchanges.specs.declared.logs.Kind.TheVariants.{Entry, Prefix, Shown, Fixed}
use Rattle.exchanges.specs.declared.logs.Exchange.{Exchange}
use Rattle.exchanges.specs.Asked.{IsActOf, fixed_status, is_login, query_of}

-- What a response is made of: the answer to an act; what a query shows; the publication that is shown, if there is one; a status alone.
pub data Content : Type 0 where
  OfAct : Result Reply Refusal → Content
  OfView : ShownOf → Content
  OfRoster : Option Publication → Content
  OfStatus : ℕ → Content

-- A request that was answered: how many bytes it had; of which kind the answer is; the token that was drawn for it; the moment of the answer; the site's
-- history that gave it; and what its response is made of.
pub record Answered : Type 0 where
  pub request : Request
  pub used : ℕ
  pub kind : Kind
  pub token : Option (List ℕ)
  pub moment : ℕ
  pub seen : History
  pub content : Content

abbrev pub answered : Request → ℕ → Kind → Option (List ℕ) → ℕ → History → Content → Answered
answered q used kind token moment seen content =
    record { request = q; used = used; kind = kind; token = token; moment = moment; seen = seen; content = content }

-- Its line in a log.
abbrev pub logged : Answered → Exchange
logged a = record { used = a.used; kind = a.kind }

-- Bytes are requests one behind another, and a rest.
abbrev pub AreRequests : List ℕ → List Answered → List ℕ → Type 0
AreRequests bytes [] rest = bytes ≡ rest
AreRequests bytes (a ∷ others) rest = IsRequest bytes (Whole a.request a.used) × AreRequests (drop a.used bytes) others rest

-- An act has its entry at a place behind all that was seen before. The reply is the one that the history up to there gives.
pub record Enters (caller : ℕ) (before : History) (place : ℕ) (a : Answered) : Type 0 where
  pub act : Act
  pub reply : Reply
  pub history : History
  pub is_act : IsActOf a.request a.token act
  pub begins : StartsWith history before
  pub is_reply : IsReply history act reply
  pub here : place ≡ places history
  pub seen : a.seen ≡ with_entry history (entry_of caller act reply a.moment)
  pub content : a.content ≡ OfAct (Ok reply)

-- What a history tells without an entry: what a query shows, or that there is no place or no room for an act.
abbrev pub Tells : Request → Option (List ℕ) → History → Content → Type 0
Tells q token h (OfAct answer) = (act : Act) × (why : Refusal) × (answer ≡ Err why) × (why ≢ NoMemory) × IsActOf q token act × Refuses h act why
Tells q token h (OfView view) = (query : Query) × (query_of q.route ≡ Some query) × (view ≡ shown h query)
Tells q token h (OfRoster shown) = ⊥
Tells q token h (OfStatus status) = ⊥

-- The last publication of a history, where there is one.
abbrev pub IsLastOf : History → Option Publication → Type 0
IsLastOf h None = publications h ≡ []
IsLastOf h (Some p) = IsLatest h p

-- How a request is answered whose client has been answered by this history before: by one that begins with it. The kind says by which: with the place of
-- the act's entry, by its length, or with the number of its last publication, which is shown, 0 where there is none.
abbrev pub Answers : ℕ → History → Answered → Kind → Type 0
Answers caller before a (Entry place) = (fixed_status a.request ≡ None) × Enters caller before place a
Answers caller before a (Prefix long) =
    (fixed_status a.request ≡ None) × StartsWith a.seen before × (long ≡ places a.seen) × Tells a.request a.token a.seen a.content
Answers caller before a (Shown number) =
    AsksForRoster a.request.route × StartsWith a.seen before × (number ≡ length (publications a.seen))
    × ((publication : Option Publication) × IsLastOf a.seen publication × (a.content ≡ OfRoster publication))
Answers caller before a Fixed =
    (status : ℕ) × (fixed_status a.request ≡ Some status) × StartsWith a.seen before × (a.content ≡ OfStatus status)

-- One request after another is answered, each by a history that begins with the one before it, and the last is part of this one.
abbrev pub Follow : ℕ → History → List Answered → History → Type 0
Follow caller before [] now = StartsWith now before
Follow caller before (a ∷ others) now = Answers caller before a a.kind × Follow caller a.seen others now

-- The places of the entries that acts have.
abbrev pub place_in : Kind → List ℕ
place_in (Entry place) = place ∷ []
place_in kind = []

abbrev pub entries_of : List Answered → List ℕ
entries_of all = flat_map (λ a. place_in a.kind) all

-- A token is drawn for a login and for nothing else; all that were drawn, in order.
abbrev pub HasToken : Answered → Type 0
HasToken a = is_some a.token ≡ is_login a.request.route

abbrev pub drawn : List Answered → List (List ℕ)
drawn all = flat_map (λ a. option_to_list a.token) all

-- The response of what it is made of. A proof's is any canonical text of its roster.
abbrev pub IsPage : Request → Option (List ℕ) → Content → Response → Type 0
IsPage q token (OfAct answer) response = response ≡ answer_response q token answer
IsPage q token (OfView view) response = response ≡ view_response view
IsPage q token (OfRoster publication) response = IsShown q.route publication response
IsPage q token (OfStatus status) response = response ≡ fixed_response status

-- Its bytes, as the request has them sent at a moment.
abbrev pub IsSent : Request → Option (List ℕ) → Content → ℕ → List ℕ → Type 0
IsSent q token content moment bytes = (response : Response) × IsPage q token content response × (bytes ≡ bytes_of response q.close q.bare moment)

abbrev pub IsResponse : Answered → List ℕ → Type 0
IsResponse a bytes = IsSent a.request a.token a.content a.moment bytes

-- The responses, one behind another.
abbrev pub AreResponses : List Answered → List ℕ → Type 0
AreResponses [] bytes = bytes ≡ []
AreResponses (a ∷ others) bytes = (one more : List ℕ) × IsResponse a one × AreResponses others more × (bytes ≡ one ++ more)
