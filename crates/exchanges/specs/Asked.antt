-- What a request asks of a site.
use Rattle.std.specs.Prelude.{ℕ, ◌≡◌, Bool, true, false, List, Option, Some, None, replicate, if◌then◌else◌}
use Rattle.trust_types.specs.Names.{is_name}
use Rattle.trust_types.specs.declared.records.Secret.{Secret}
use Rattle.trust_types.specs.declared.records.Secret.TheVariants.{Absent, Digest}
use Rattle.sessions.specs.Secrets.{digest_of}
use Rattle.site_history.specs.declared.acts.Act.{Act}
use Rattle.site_history.specs.declared.commands.Author.{Author}
use Rattle.site_history.specs.declared.commands.Author.TheVariants.{Session}
use Rattle.site_history.specs.declared.commands.Command.{Command}
use Rattle.site_history.specs.declared.commands.Command.TheVariants as command
use Rattle.site_history.specs.declared.queries.Query.{Query}
use Rattle.site_history.specs.declared.queries.Query.TheVariants as query
use Rattle.http_requests.specs.declared.routes.Route.{Route}
use Rattle.http_requests.specs.declared.routes.Route.TheVariants as route
use Rattle.http_requests.specs.declared.requests.Request.{Request}
use Rattle.http_requests.specs.Refusals.{refusal}

-- The status under which nothing of the site is shown: that of a refusal, or 200 with the forms to join and to log in.
abbrev pub or_forms : Option ℕ → Route → Option ℕ
or_forms (Some status) asked = Some status
or_forms None route.Account = Some 200
or_forms None asked = None

abbrev pub fixed_status : Request → Option ℕ
fixed_status q = or_forms (refusal q) q.route

-- What a page shows of the site, but for rosters and their proofs.
abbrev pub query_of : Route → Option Query
query_of route.Front = Some query.Front
query_of route.Stewards = Some query.Stewards
query_of (route.PersonOf name) = Some (query.Person name)
query_of (route.DiaryOf name) = Some (query.Diary name)
query_of (route.ProjectOf name) = Some (query.Project name)
query_of (route.ArticleOf article) = Some (query.Article article)
query_of asked = None

-- What is kept of the password of who joins, and how who logs in proves it. No password is kept under a word that is no name; its proof is 32 zeros.
abbrev pub secret_with : List ℕ → List ℕ → Secret
secret_with word password = if is_name word then Digest (digest_of word password) else Absent

abbrev pub proof_with : List ℕ → List ℕ → List ℕ
proof_with word password = if is_name word then digest_of word password else replicate 32 0

-- Whether a token is drawn for it: a login alone gets one.
abbrev pub is_login : Route → Bool
is_login (route.Login name password) = true
is_login asked = false

abbrev pub login_under : List ℕ → List ℕ → Option (List ℕ) → Option Command
login_under name password None = None
login_under name password (Some token) = Some (command.Login name (proof_with name password) token)

-- The command of an action, that of a login under the token that was drawn for it.
abbrev pub command_of : Route → Option (List ℕ) → Option Command
command_of (route.Join name password) token = Some (command.Join name (secret_with name password))
command_of (route.Login name password) token = login_under name password token
command_of route.Logout token = Some command.Logout
command_of (route.Cert subject level) token = Some (command.Cert subject level)
command_of (route.Diary text) token = Some (command.Diary text)
command_of (route.Article title text) token = Some (command.Article title text)
command_of (route.Reply article text) token = Some (command.Reply article text)
command_of (route.Project name text) token = Some (command.Project name text)
command_of (route.Seed subject) token = Some (command.Seed subject)
command_of (route.Unseed subject) token = Some (command.Unseed subject)
command_of (route.Table caps) token = Some (command.Table caps)
command_of asked token = None

-- Who acts: nobody yet who joins or logs in; else the name, under the token, that the cookies give.
abbrev pub author_by : Option (List ℕ × List ℕ) → Option Author
author_by None = None
author_by (Some session) = Some (Session session.0 session.1)

abbrev pub author_of : Route → Option (List ℕ × List ℕ) → Option Author
author_of (route.Join name password) session = None
author_of (route.Login name password) session = None
author_of asked session = author_by session

-- The act that a request asks for.
pub record IsActOf (q : Request) (token : Option (List ℕ)) (act : Act) : Type 0 where
  pub command : command_of q.route token ≡ Some act.command
  pub author : act.author ≡ author_of q.route q.session
