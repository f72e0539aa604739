-- What the paths of a site name.
use Rattle.std.specs.Prelude.{ℕ, Bool, true, false, not, List, [], ◌∷◌, length, take, drop, Option, Some, None, find, ◌==◌, ◌&&◌, nat_lt, if◌then◌else◌, codes}
use Rattle.std.specs.List.{list_any}
use Rattle.std.specs.Str.{bytes_eq}
use Rattle.http_paths.specs.declared.Page.{Page}
use Rattle.http_paths.specs.declared.Page.TheVariants as page
use Rattle.http_paths.specs.declared.Action.{Action}
use Rattle.http_paths.specs.declared.Action.TheVariants as action

-- A path of the table: the path itself, or what stands in it before one part more.
pub record Place (A : Type 0) : Type 0 where
  pub front : List ℕ
  pub has_part : Bool
  pub meaning : A

abbrev pub at_path : {A : Type 0} → List ℕ → A → Place A
at_path path what = record { front = path; has_part = false; meaning = what }

abbrev pub before_part : {A : Type 0} → List ℕ → A → Place A
before_part front what = record { front = front; has_part = true; meaning = what }

-- One part of a path isn't empty and has no slash.
abbrev pub is_part : List ℕ → Bool
is_part bytes = nat_lt 0 (length bytes) && not (list_any (λ byte. byte == 47) bytes)

abbrev pub begins_with : List ℕ → List ℕ → Bool
begins_with front path = bytes_eq (take (length front) path) front

-- Whether a path is of that place.
abbrev pub is_of : {A : Type 0} → List ℕ → Place A → Bool
is_of path place = if place.has_part then begins_with place.front path && is_part (drop (length place.front) path) else bytes_eq path place.front

-- What a path names: no path is of two places of a table.
abbrev pub named_by : {A : Type 0} → Option (Place A) → Option A
named_by None = None
named_by (Some place) = Some place.meaning

abbrev pub named_in : {A : Type 0} → List (Place A) → List ℕ → Option A
named_in places path = named_by (find (is_of path) places)

-- The pages, in alphabetical order but for the front page.
abbrev pub pages : List (Place Page)
pages =
    at_path (codes "/account") page.Account
    ∷ before_part (codes "/article/") page.Article
    ∷ before_part (codes "/diary/") page.Diary
    ∷ before_part (codes "/person/") page.Person
    ∷ before_part (codes "/project/") page.Project
    ∷ before_part (codes "/proof/") page.Proof
    ∷ before_part (codes "/roster/") page.Roster
    ∷ at_path (codes "/stewards") page.Stewards
    ∷ at_path (codes "/") page.Front
    ∷ []

-- What may be done, in alphabetical order.
abbrev pub actions : List (Place Action)
actions =
    at_path (codes "/article") action.Article
    ∷ at_path (codes "/cert") action.Cert
    ∷ at_path (codes "/diary") action.Diary
    ∷ at_path (codes "/join") action.Join
    ∷ at_path (codes "/login") action.Login
    ∷ at_path (codes "/logout") action.Logout
    ∷ at_path (codes "/project") action.Project
    ∷ at_path (codes "/reply") action.Reply
    ∷ at_path (codes "/seed") action.Seed
    ∷ at_path (codes "/table") action.Table
    ∷ at_path (codes "/unseed") action.Unseed
    ∷ []
