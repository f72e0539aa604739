-- The tables of the routes as rows of a router.
use Rattle.std.specs.Prelude.{ℕ, List, [], Option, option_map, Result, Ok, Err, codes}
use Rattle.matchit.specs.Rows.{RowsOf}
use Rattle.matchit.specs.Order.{placed}
use Rattle.matchit.specs.Router.{RouteOf, route_from}
use Rattle.matchit.specs.Seek.{first}
use Rattle.matchit.specs.Route.{Scan, parse_route}
use Rattle.matchit.specs.declared.error.InsertError.{InsertError}
use Rattle.http_paths.specs.declared.Page.{Page}
use Rattle.http_paths.specs.declared.Page.TheVariants as page
use Rattle.http_paths.specs.declared.Action.{Action}
use Rattle.http_paths.specs.declared.Action.TheVariants as action

abbrev pub Rows : Type 0 → Type 0
Rows A = RowsOf (RouteOf A)

-- The rows with one more, where its path reads as a route.
abbrev pub with_scan : {A : Type 0} → Result Scan InsertError → A → Rows A → Rows A
with_scan (Ok scan) what rows = placed (scan.pattern, route_from scan what) rows
with_scan (Err fault) what rows = rows

unfoldable pub with_route : {A : Type 0} → List ℕ → A → Rows A → Rows A
with_route path what rows = with_scan (parse_route path) what rows

abbrev pub first_pages : Rows Page → Rows Page
first_pages rows =
    with_route (codes "/person/{of}") page.Person
    (with_route (codes "/stewards") page.Stewards
    (with_route (codes "/account") page.Account
    (with_route (codes "/") page.Front rows)))

abbrev pub page_table : Rows Page
page_table =
    with_route (codes "/proof/{of}") page.Proof
    (with_route (codes "/roster/{of}") page.Roster
    (with_route (codes "/article/{of}") page.Article
    (with_route (codes "/project/{of}") page.Project
    (with_route (codes "/diary/{of}") page.Diary
    (first_pages [])))))

abbrev pub first_actions : Rows Action → Rows Action
first_actions rows =
    with_route (codes "/diary") action.Diary
    (with_route (codes "/cert") action.Cert
    (with_route (codes "/logout") action.Logout
    (with_route (codes "/login") action.Login
    (with_route (codes "/join") action.Join rows))))

abbrev pub action_table : Rows Action
action_table =
    with_route (codes "/table") action.Table
    (with_route (codes "/unseed") action.Unseed
    (with_route (codes "/seed") action.Seed
    (with_route (codes "/project") action.Project
    (with_route (codes "/reply") action.Reply
    (with_route (codes "/article") action.Article
    (first_actions []))))))

-- What a router of these rows finds at a path.
abbrev pub found_in : {A : Type 0} → Rows A → List ℕ → Option A
found_in rows path = option_map (λ row. row.value) (first rows path)

-- The page at a path, and what is done there.
abbrev pub page_at : List ℕ → Option Page
page_at path = found_in page_table path

abbrev pub action_at : List ℕ → Option Action
action_at path = found_in action_table path
