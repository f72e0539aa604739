-- What a POST asks for, by its path and its form.
use Rattle.std.specs.Prelude.{ℕ, List, [], ◌∷◌, Option, Some, None, codes}
use Rattle.std.specs.Result.{result_ok}
use Rattle.trust_types.specs.Levels.{level_of}
use Rattle.trust_types.specs.Tables.{Table as Caps, judged_table}
use Rattle.text_lines.specs.Numbers.{number}
use Rattle.text_lines.specs.Words.{words}
use Rattle.http_requests.specs.Forms.{field}
use Rattle.http_paths.specs.Places.{named_in, actions}
use Rattle.http_paths.specs.declared.Action.{Action}
use Rattle.http_paths.specs.declared.Action.TheVariants as action
use Rattle.http_requests.specs.declared.routes.Route.{Route}
use Rattle.http_requests.specs.declared.routes.Route.TheVariants.{Join, Login, Logout, Cert, Diary, Article, Reply, Project, Seed, Unseed, Table, NotFound, BadForm}

-- A step that reads something of the form, and the further ones with what it reads; without it the form is malformed.
infixl 10 ◌>>=◌
abbrev pub ◌>>=◌ : {A : Type 0} → Option A → (A → Route) → Route
None >>= route = BadForm
(Some value) >>= route = route value

abbrev pub or_none : {A : Type 0} → Option A → Option (List A) → Option (List A)
or_none None others = None
or_none (Some value) None = None
or_none (Some value) (Some others) = Some (value ∷ others)

-- The numbers that words write; `None` where one of them writes none.
abbrev pub numbers : List (List ℕ) → Option (List ℕ)
numbers [] = Some []
numbers (word ∷ others) = or_none (number word) (numbers others)

abbrev pub table_by : Option ℕ → Option (List ℕ) → Option Caps
table_by None entries = None
table_by (Some levels) None = None
table_by (Some levels) (Some entries) = result_ok (judged_table levels entries)

-- The table of that many levels with entries that stand with single spaces.
abbrev pub table_of : List ℕ → List ℕ → Option Caps
table_of levels entries = table_by (number levels) (numbers (words entries))

-- What an action asks for with the fields of its form. Each field is the first of its name.
abbrev pub done : Action → List ℕ → Route
done action.Join form = do
  name ← field form (codes "name")
  password ← field form (codes "password")
  Join name password
done action.Login form = do
  name ← field form (codes "name")
  password ← field form (codes "password")
  Login name password
done action.Logout form = Logout
done action.Cert form = do
  subject ← field form (codes "subject")
  word ← field form (codes "level")
  level ← level_of word
  Cert subject level
done action.Diary form = do
  text ← field form (codes "text")
  Diary text
done action.Article form = do
  title ← field form (codes "title")
  text ← field form (codes "text")
  Article title text
done action.Reply form = do
  word ← field form (codes "article")
  text ← field form (codes "text")
  article ← number word
  Reply article text
done action.Project form = do
  name ← field form (codes "name")
  text ← field form (codes "text")
  Project name text
done action.Seed form = do
  subject ← field form (codes "subject")
  Seed subject
done action.Unseed form = do
  subject ← field form (codes "subject")
  Unseed subject
done action.Table form = do
  levels ← field form (codes "levels")
  entries ← field form (codes "entries")
  caps ← table_of levels entries
  Table caps

abbrev pub done_by : Option Action → List ℕ → Route
done_by None body = NotFound
done_by (Some named) body = done named body

-- The route of a POST of a body to a path.
abbrev pub action_route : List ℕ → List ℕ → Route
action_route path body = done_by (named_in actions path) body
