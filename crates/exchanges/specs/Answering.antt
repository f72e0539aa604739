-- What answers a request, and what answering it did.
use Rattle.std.specs.Prelude.{ℕ, ◌≡◌, ◌++◌, List, Option, Contains}
use Rattle.http_requests.specs.declared.requests.Request.{Request}
use Rattle.http_pages.specs.Fixed.{fixed_statuses}
use Rattle.http_pages.specs.Rosters.{AsksForRoster}
use Rattle.http_pages.specs.Views.{AreDated}
use Rattle.roster_form.specs.declared.publications.Publication.{Publication}
use Rattle.site_history.specs.Views.{said}
use Rattle.site_history.specs.Legal.{IsLegal}
use Rattle.turn_book.specs.Seats.{Seated, IsSame, StartsWith, mine}
use Rattle.exchanges.specs.declared.logs.Kind.{Kind}
use Rattle.exchanges.specs.declared.answering.Page.{Page}
use Rattle.exchanges.specs.declared.answering.Page.TheVariants.{Act, View, Roster, Status}
use Rattle.exchanges.specs.Exchanges.{Content, OfAct, OfView, OfRoster, OfStatus, Answers, answered, place_in}

-- What a page shows, where this publication is the one that a cache holds.
abbrev pub content_of : Page → Option Publication → Content
content_of (Act answer) held = OfAct answer
content_of (View view) held = OfView (said view)
content_of Roster held = OfRoster held
content_of (Status status) held = OfStatus status

-- The page can be sent as the response to a request.
abbrev pub CanBeSent : Request → Page → Type 0
CanBeSent q (Act answer) = Unit {0}
CanBeSent q (View view) = AreDated (said view)
CanBeSent q Roster = AsksForRoster q.route
CanBeSent q (Status status) = Contains fixed_statuses status

-- The seat, which was answered by what it then has seen, made the entry that the kind names and no other.
pub record AnswersTo (before now : Seated) (q : Request) (token : Option (List ℕ)) (moment : ℕ) (kind : Kind) (content : Content) : Type 0 where
  pub same : IsSame before now
  pub legal : IsLegal now.seen
  pub begins : StartsWith now.seen before.seen
  pub made : mine now ≡ mine before ++ place_in kind
  pub answers : (used : ℕ) → Answers before.low before.seen (answered q used kind token moment now.seen content) kind
