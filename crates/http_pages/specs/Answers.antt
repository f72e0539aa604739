-- How a site's answers to acts are sent: the status of each, where an accepted one leads, and the cookie of a session.
use Rattle.std.specs.Prelude.{ℕ, List, [], ◌++◌, codes, decimal, Option, Some, None, Result, Ok, Err, if◌then◌else◌}
use Rattle.hex.specs.Hex.{encode_lower}
use Rattle.trust_types.specs.Names.{is_name}
use Rattle.posting_policy.specs.declared.PostKind.{PostKind}
use Rattle.posting_policy.specs.declared.PostKind.TheVariants as kind
use Rattle.site_history.specs.declared.replies.Reply.{Reply}
use Rattle.site_history.specs.declared.replies.Reply.TheVariants.{Joined, Revised, Posted, LoggedIn, LoggedOut, NoSession, NoSuchAuthor, BadName, NameTaken, AccountsFull, NoSuchAccount, SelfCert, NoSuchLevel, Same, CertsFull, NotSeed, LastSeed, LevelsFall, NoSuchArticle, LongText, WrongPassword, TokenTaken, SessionsFull, Denied, NotSteward, Fault}
use Rattle.site_history.specs.declared.replies.Refusal.{Refusal}
use Rattle.site_history.specs.Words.{reply_words, refusal_words}
use Rattle.http_requests.specs.declared.requests.Request.{Request}
use Rattle.http_requests.specs.declared.routes.Route.{Route}
use Rattle.http_requests.specs.declared.routes.Route.TheVariants as route
use Rattle.http_pages.specs.declared.responses.Kind.TheVariants.{Html}
use Rattle.http_pages.specs.Responses.{Response, failed}

-- The status of a reply (RFC 9110, section 15). An accepted act has another page to look at, 303. A refusal is for what the act says (400), for
-- who acts (403), for what isn't there (404), for what is so already (409), or for what the site can't do now (503).
abbrev pub reply_status : Reply → ℕ
reply_status (Joined account) = 303
reply_status (Revised revision) = 303
reply_status (Posted kind number) = 303
reply_status (LoggedIn account) = 303
reply_status LoggedOut = 303
reply_status BadName = 400
reply_status SelfCert = 400
reply_status (NoSuchLevel levels) = 400
reply_status (LongText length) = 400
reply_status NoSession = 403
reply_status NoSuchAuthor = 403
reply_status WrongPassword = 403
reply_status (Denied held needed) = 403
reply_status NotSteward = 403
reply_status NoSuchAccount = 404
reply_status NoSuchArticle = 404
reply_status (NameTaken number) = 409
reply_status Same = 409
reply_status NotSeed = 409
reply_status LastSeed = 409
reply_status (LevelsFall levels) = 409
reply_status AccountsFull = 503
reply_status CertsFull = 503
reply_status SessionsFull = 503
reply_status TokenTaken = 503
reply_status Fault = 503

-- The path of the page of a name. Only a name stands in a head: any other word leads to the front page.
abbrev pub named_path : List ℕ → List ℕ → List ℕ
named_path front word = if is_name word then front ++ word else codes "/"

-- Where a change of the graph or of the table leads: to the account, or to the table.
abbrev pub change_path : Route → List ℕ
change_path (route.Cert subject level) = named_path (codes "/person/") subject
change_path (route.Seed subject) = named_path (codes "/person/") subject
change_path (route.Unseed subject) = named_path (codes "/person/") subject
change_path (route.Table caps) = codes "/stewards"
change_path _ = codes "/"

-- Where a post leads: to its author's diary, to the article, or to the project.
abbrev pub diary_path : Option (List ℕ × List ℕ) → List ℕ
diary_path None = codes "/"
diary_path (Some session) = named_path (codes "/diary/") session.0

abbrev pub article_path : ℕ → List ℕ
article_path number = codes "/article/" ++ decimal number

abbrev pub reply_path : Route → List ℕ
reply_path (route.Reply article text) = article_path article
reply_path _ = codes "/"

abbrev pub project_path : Route → List ℕ
project_path (route.Project name text) = named_path (codes "/project/") name
project_path _ = codes "/"

abbrev pub post_path : Request → PostKind → ℕ → List ℕ
post_path q kind.Diary number = diary_path q.session
post_path q kind.Article number = article_path number
post_path q kind.Reply number = reply_path q.route
post_path q kind.Project number = project_path q.route

-- Where a reply to a request leads; `None` for one that refuses it.
abbrev pub location_of : Request → Reply → Option (List ℕ)
location_of q (Joined account) = Some (codes "/account")
location_of q (Revised revision) = Some (change_path q.route)
location_of q (Posted kind number) = Some (post_path q kind number)
location_of q (LoggedIn account) = Some (codes "/")
location_of q LoggedOut = Some (codes "/")
location_of q _ = None

-- The cookie of a session, by the name of its account and its token in hexadecimal digits. No script may read it.
abbrev pub session_cookie : List ℕ → List ℕ → List ℕ
session_cookie name token = codes "id=" ++ name ++ codes ":" ++ encode_lower token ++ codes "; Path=/; HttpOnly"

-- The one that takes it back: it is empty, and is forgotten at once.
abbrev pub no_cookie : List ℕ
no_cookie = codes "id=; Path=/; Max-Age=0"

-- The cookie of a login, by the name in its form and the token that was drawn for it.
abbrev pub named_cookie : List ℕ → Option (List ℕ) → Option (List ℕ)
named_cookie name None = None
named_cookie name (Some token) = if is_name name then Some (session_cookie name token) else None

abbrev pub login_cookie : Route → Option (List ℕ) → Option (List ℕ)
login_cookie (route.Login name password) token = named_cookie name token
login_cookie _ token = None

-- The cookie of a reply, where it has one.
abbrev pub cookie_of : Request → Option (List ℕ) → Reply → Option (List ℕ)
cookie_of q token (LoggedIn account) = login_cookie q.route token
cookie_of q token LoggedOut = Some no_cookie
cookie_of q token _ = None

-- A reply that leads somewhere has no body; one that refuses has its words on the page of an error.
abbrev pub reply_response : ℕ → List ℕ → Option (List ℕ) → Option (List ℕ) → Response
reply_response status words None cookie = failed status words
reply_response status words (Some path) cookie = record { status = status; kind = Html; location = Some path; cookie = cookie; body = [] }

-- What an answer to a request is sent as. A refusal by the site as a whole, which is full or out of memory, is 503.
abbrev pub answer_response : Request → Option (List ℕ) → Result Reply Refusal → Response
answer_response q token (Ok reply) = reply_response (reply_status reply) (reply_words reply) (location_of q reply) (cookie_of q token reply)
answer_response q token (Err refusal) = failed 503 (refusal_words refusal)
