-- A page of HTML: its title and its content.
use Rattle.std.specs.Prelude.{ℕ, List, ◌++◌, codes}
use Rattle.std.specs.List.{flat_map}
use Rattle.trust_types.specs.declared.levels.Level.{Level}
use Rattle.trust_types.specs.Levels.{level_name}
use Rattle.trust_types.specs.Tables.{Table}
use Rattle.html_pages.specs.Lines.{paragraph, heading, list, form, cert_line, seed_line, roster_line, level_line, publication_line, levels_line, caps_line}

-- What stands in front of a page's content.
unfoldable pub opening : List ℕ → List ℕ
opening title = codes "<!DOCTYPE html>\n<html><head><title>" ++ title ++ codes "</title></head><body>\n<h1>" ++ title ++ codes "</h1>\n"

-- The page of a title and a content. An LF stands behind each line.
unfoldable pub page : List ℕ → List ℕ → List ℕ
page title content = opening title ++ content ++ codes "</body></html>\n"

-- The forms to join and to log in.
unfoldable pub account_page : List ℕ
account_page = page (codes "account") (form (codes "join") ++ form (codes "login"))

-- The page that says why there is no other.
unfoldable pub error_page : List ℕ → List ℕ
error_page text = page (codes "Error") (paragraph text)

-- An account: the level that it holds, the certificates that it gives, and those that it takes.
unfoldable pub person_page : List ℕ → Level → List (List ℕ × Level) → List (List ℕ × Level) → List ℕ
person_page name level given taken =
    page name (level_line level ++ heading (codes "certifies") ++ list (flat_map cert_line given)
    ++ heading (codes "certified by") ++ list (flat_map cert_line taken))

-- The table in force, and the seeds.
unfoldable pub stewards_page : Table → List (List ℕ) → List ℕ
stewards_page table seeds =
    page (codes "stewards") (levels_line table.levels ++ caps_line table.entries ++ list (flat_map seed_line seeds))

-- The accounts of a grade in a publication.
unfoldable pub roster_page : Level → ℕ → ℕ → List (List ℕ) → List ℕ
roster_page grade number revision names =
    page (level_name grade) (publication_line number revision ++ list (flat_map roster_line names))

-- The roster of a grade before there is a publication.
unfoldable pub no_roster : Level → List ℕ
no_roster grade = page (level_name grade) (paragraph (codes "no publication"))

-- The newest articles, a line each.
unfoldable pub front_page : List ℕ → List ℕ
front_page articles = page (codes "virgule") (list articles)

-- A diary, by the lines of its entries.
unfoldable pub diary_page : List ℕ → List ℕ → List ℕ
diary_page name entries = page (codes "Diary of " ++ name) entries

-- An article, by its title, and its lines and those of the replies to it.
unfoldable pub article_page : List ℕ → List ℕ → List ℕ → List ℕ
article_page title article replies = page title (article ++ replies)

-- A project, by its lines.
unfoldable pub project_page : List ℕ → List ℕ → List ℕ
project_page name project = page name project
