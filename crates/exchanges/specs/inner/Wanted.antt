-- What a request is found to ask for.
use Rattle.std.specs.Prelude.{ℕ, ◌≡◌, List, Option, Some, None}
use Rattle.http_requests.specs.declared.requests.Request.{Request}
use Rattle.http_pages.specs.Rosters.{AsksForRoster}
use Rattle.exchanges.specs.declared.wanted.Wanted.{Wanted}
use Rattle.exchanges.specs.declared.wanted.Wanted.TheVariants.{Status, View, Act, Roster}
use Rattle.exchanges.specs.Asked.{IsActOf, fixed_status, query_of}

abbrev pub Wants : Request → Option (List ℕ) → Wanted → Type 0
Wants q token (Status status) = fixed_status q ≡ Some status
Wants q token (View query) = (fixed_status q ≡ None) × (query_of q.route ≡ Some query)
Wants q token (Act act) = (fixed_status q ≡ None) × IsActOf q token act
Wants q token Roster = AsksForRoster q.route
