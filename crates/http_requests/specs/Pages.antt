-- What a GET asks for, by its path.
use Rattle.std.specs.Prelude.{ℕ, List, [], length, drop, Option, Some, None, if◌then◌else◌, codes}
use Rattle.trust_types.specs.declared.levels.Level.{Level}
use Rattle.trust_types.specs.Levels.{level_of, is_grade}
use Rattle.text_lines.specs.Numbers.{number}
use Rattle.http_paths.specs.declared.Page.{Page}
use Rattle.http_paths.specs.declared.Page.TheVariants as page
use Rattle.http_paths.specs.Places.{begins_with, named_in, pages}
use Rattle.http_requests.specs.declared.routes.Route.{Route}
use Rattle.http_requests.specs.declared.routes.Route.TheVariants.{Front, Account, Stewards, PersonOf, DiaryOf, ProjectOf, ArticleOf, RosterOf, ProofOf, NotFound}

-- What follows a front of a path; nothing where the path doesn't begin with it.
abbrev pub part_after : List ℕ → List ℕ → List ℕ
part_after front path = if begins_with front path then drop (length front) path else []

abbrev pub article_by : Option ℕ → Route
article_by None = NotFound
article_by (Some article) = ArticleOf article

abbrev pub article_of : List ℕ → Route
article_of part = article_by (number part)

-- The grade that a part spells: a level other than Observer.
abbrev pub grade_by : Option Level → Option Level
grade_by None = None
grade_by (Some level) = if is_grade level then Some level else None

abbrev pub grade_of : List ℕ → Option Level
grade_of part = grade_by (level_of part)

abbrev pub with_grade : Option Level → (Level → Route) → Route
with_grade None route = NotFound
with_grade (Some grade) route = route grade

-- What a page's path shows.
abbrev pub shown : Page → List ℕ → Route
shown page.Front path = Front
shown page.Account path = Account
shown page.Stewards path = Stewards
shown page.Person path = PersonOf (part_after (codes "/person/") path)
shown page.Diary path = DiaryOf (part_after (codes "/diary/") path)
shown page.Project path = ProjectOf (part_after (codes "/project/") path)
shown page.Article path = article_of (part_after (codes "/article/") path)
shown page.Roster path = with_grade (grade_of (part_after (codes "/roster/") path)) RosterOf
shown page.Proof path = with_grade (grade_of (part_after (codes "/proof/") path)) ProofOf

abbrev pub shown_by : Option Page → List ℕ → Route
shown_by None path = NotFound
shown_by (Some named) path = shown named path

-- The route of a GET to a path.
abbrev pub page_route : List ℕ → Route
page_route path = shown_by (named_in pages path) path
