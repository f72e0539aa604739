-- The lines of pages. An LF stands behind each.
use Rattle.std.specs.Prelude.{ℕ, List, ◌++◌, codes, decimal}
use Rattle.std.specs.List.{flat_map}
use Rattle.trust_types.specs.declared.levels.Level.{Level}
use Rattle.trust_types.specs.Levels.{level_name}
use Rattle.html_pages.specs.Dates.{date_of}

unfoldable pub paragraph : List ℕ → List ℕ
paragraph text = codes "<p>" ++ text ++ codes "</p>\n"

unfoldable pub heading : List ℕ → List ℕ
heading text = codes "<h2>" ++ text ++ codes "</h2>\n"

unfoldable pub list : List ℕ → List ℕ
list items = codes "<ul>\n" ++ items ++ codes "</ul>\n"

-- A text of a member, cleaned.
unfoldable pub block : List ℕ → List ℕ
block html = codes "<div>" ++ html ++ codes "</div>\n"

-- The form for a name and a password that is sent to the path of that word.
unfoldable pub form : List ℕ → List ℕ
form word =
    codes "<form method=\"post\" action=\"/" ++ word
    ++ codes "\"><input name=\"name\"><input name=\"password\" type=\"password\"><button>" ++ word ++ codes "</button></form>\n"

-- An article of the front page, whose title is escaped.
unfoldable pub article_line : ℕ → List ℕ → List ℕ → List ℕ
article_line number title author =
    codes "<li><a href=\"/article/" ++ decimal number ++ codes "\">" ++ title ++ codes "</a> by <a href=\"/person/" ++ author ++ codes "\">" ++ author
    ++ codes "</a></li>\n"

-- An account of a roster.
unfoldable pub roster_line : List ℕ → List ℕ
roster_line name = codes "<li><a href=\"/person/" ++ name ++ codes "\">" ++ name ++ codes "</a></li>\n"

-- A certificate: the other account, and the level.
unfoldable pub cert_line : List ℕ × Level → List ℕ
cert_line c = codes "<li>" ++ c.0 ++ codes " " ++ level_name c.1 ++ codes "</li>\n"

unfoldable pub seed_line : List ℕ → List ℕ
seed_line name = codes "<li>" ++ name ++ codes "</li>\n"

unfoldable pub level_line : Level → List ℕ
level_line level = codes "<p>level " ++ level_name level ++ codes "</p>\n"

unfoldable pub publication_line : ℕ → ℕ → List ℕ
publication_line number revision = codes "<p>publication " ++ decimal number ++ codes " revision " ++ decimal revision ++ codes "</p>\n"

unfoldable pub levels_line : ℕ → List ℕ
levels_line levels = codes "<p>levels " ++ decimal levels ++ codes "</p>\n"

-- A number with a space in front of it.
unfoldable pub spaced : ℕ → List ℕ
spaced n = codes " " ++ decimal n

-- The entries of a table.
unfoldable pub caps_line : List ℕ → List ℕ
caps_line entries = codes "<p>caps" ++ flat_map spaced entries ++ codes "</p>\n"

-- Who wrote, and when.
unfoldable pub signed : List ℕ → ℕ → List ℕ
signed author moment = author ++ codes " " ++ date_of moment

-- An entry of a diary.
unfoldable pub entry_lines : ℕ → List ℕ → List ℕ
entry_lines moment html = heading (date_of moment) ++ block html

-- An article or a project.
unfoldable pub post_lines : List ℕ → ℕ → List ℕ → List ℕ
post_lines author moment html = codes "<p>by " ++ signed author moment ++ codes "</p>\n" ++ block html

unfoldable pub reply_lines : List ℕ → ℕ → List ℕ → List ℕ
reply_lines author moment html = heading (signed author moment) ++ block html
