-- The answers in which something of a site is shown.
use Rattle.std.specs.Prelude.{ℕ, ◌<◌, All, List, codes}
use Rattle.std.specs.List.{flat_map}
use Rattle.markup.specs.Cleaning.{cleaned}
use Rattle.markup.specs.Escapes.{escaped}
use Rattle.site_history.specs.declared.views.ArticleHead.{ArticleHead}
use Rattle.site_history.specs.declared.views.PostView.{PostView}
use Rattle.site_history.specs.Views.{Shown, Front, OfPerson, OfDiary, OfArticle, OfProject, OfStewards, Missing}
use Rattle.html_pages.specs.Dates.{NO_DATE}
use Rattle.html_pages.specs.Lines.{article_line, entry_lines, post_lines, reply_lines}
use Rattle.html_pages.specs.Pages.{front_page, person_page, diary_page, article_page, project_page, stewards_page}
use Rattle.http_pages.specs.Responses.{Response, found, failed}

-- A post whose moment has a date, and what is shown with such posts alone.
abbrev pub IsDated : PostView → Type 0
IsDated post = post.moment < NO_DATE

abbrev pub AreDated : Shown → Type 0
AreDated (Front heads) = Unit {0}
AreDated (OfPerson p) = Unit {0}
AreDated (OfDiary name posts) = All IsDated posts
AreDated (OfArticle a) = IsDated a.post × All IsDated a.replies
AreDated (OfProject name post) = IsDated post
AreDated (OfStewards table seeds) = Unit {0}
AreDated Missing = Unit {0}

-- Articles and posts, as lines: their titles escaped, their texts cleaned.
unfoldable pub headline_of : ArticleHead → List ℕ
headline_of a = article_line a.no (escaped a.title) a.author

unfoldable pub entry_of : PostView → List ℕ
entry_of post = entry_lines post.moment (cleaned post.text)

unfoldable pub written_of : PostView → List ℕ
written_of post = post_lines post.author post.moment (cleaned post.text)

unfoldable pub reply_of : PostView → List ℕ
reply_of post = reply_lines post.author post.moment (cleaned post.text)

-- What a view is answered with.
abbrev pub view_response : Shown → Response
view_response (Front heads) = found (front_page (flat_map headline_of heads))
view_response (OfPerson p) = found (person_page p.name p.level p.given p.taken)
view_response (OfDiary name posts) = found (diary_page name (flat_map entry_of posts))
view_response (OfArticle a) = found (article_page (escaped a.title) (written_of a.post) (flat_map reply_of a.replies))
view_response (OfProject name post) = found (project_page name (written_of post))
view_response (OfStewards table seeds) = found (stewards_page table seeds)
view_response Missing = failed 404 (codes "not found")
