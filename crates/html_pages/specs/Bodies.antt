-- The bodies that are written.
use Rattle.std.specs.Prelude.{ℕ, List, [], map}
use Rattle.std.specs.List.{flat_map}
use Rattle.trust_types.specs.NodeWords.{name_of}
use Rattle.html_pages.specs.declared.bodies.Body.{Body}
use Rattle.html_pages.specs.declared.bodies.Body.TheVariants as body
use Rattle.html_pages.specs.Shown.{headline, entry, written, reply}
use Rattle.html_pages.specs.Pages.{account_page, error_page, person_page, stewards_page, roster_page, no_roster, front_page, diary_page, article_page, project_page}

abbrev pub body_of : Body → List ℕ
body_of body.Empty = []
body_of body.Account = account_page
body_of (body.Error text) = error_page text.now
body_of (body.Text text) = text.now
body_of (body.Person name level given taken) = person_page name.now level given.now taken.now
body_of (body.Stewards caps seeds) = stewards_page caps.now seeds.now
body_of (body.Roster r) = roster_page r.grade r.number r.revision (map (name_of r.frozen.now.names) r.served.now)
body_of (body.NoRoster grade) = no_roster grade
body_of (body.Front articles) = front_page (flat_map headline articles.now)
body_of (body.Diary name posts) = diary_page name.now (flat_map entry posts.now)
body_of (body.Article title post replies) = article_page title.now (written post.now) (flat_map reply replies.now)
body_of (body.Project name post) = project_page name.now (written post.now)
