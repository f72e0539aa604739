-- Where a response leads, and its cookie, as the code holds them.
use Rattle.std.specs.Prelude.{ℕ, List, ◌++◌, codes}
use Rattle.http_pages.specs.declared.leads.Place.{Place}
use Rattle.http_pages.specs.declared.leads.Place.TheVariants as place
use Rattle.http_pages.specs.declared.leads.Cookie.{Cookie}
use Rattle.http_pages.specs.declared.leads.Cookie.TheVariants as cookie
use Rattle.http_pages.specs.Answers.{article_path, session_cookie, no_cookie}

abbrev pub path : Place → List ℕ
path place.Front = codes "/"
path place.Account = codes "/account"
path place.Stewards = codes "/stewards"
path (place.Person name) = codes "/person/" ++ name
path (place.Diary name) = codes "/diary/" ++ name
path (place.Project name) = codes "/project/" ++ name
path (place.Article number) = article_path number

abbrev pub cookie_text : Cookie → List ℕ
cookie_text (cookie.Session name token) = session_cookie name token.now
cookie_text cookie.Ended = no_cookie
