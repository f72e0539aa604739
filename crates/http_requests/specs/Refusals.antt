-- Which requests are refused before the site is asked, and with which status (RFC 9110, section 15).
use Rattle.std.specs.Prelude.{ℕ, Bool, true, false, ◌&&◌, Option, Some, None, is_none, if◌then◌else◌}
use Rattle.http_requests.specs.declared.routes.Route.{Route}
use Rattle.http_requests.specs.declared.routes.Route.TheVariants.{Logout, Cert, Diary, Article, Reply, Project, Seed, Unseed, Table, NotFound, NotImplemented, BadForm}
use Rattle.http_requests.specs.declared.requests.Request.{Request}

-- What only a session may ask for.
abbrev pub needs_session : Route → Bool
needs_session Logout = true
needs_session (Cert subject level) = true
needs_session (Diary text) = true
needs_session (Article title text) = true
needs_session (Reply article text) = true
needs_session (Project name text) = true
needs_session (Seed subject) = true
needs_session (Unseed subject) = true
needs_session (Table caps) = true
needs_session route = false

-- What asks for nothing: the method, the path or the form is none.
abbrev pub unmet : Route → Option ℕ
unmet NotImplemented = Some 501
unmet NotFound = Some 404
unmet BadForm = Some 400
unmet route = None

abbrev pub or_403 : Option ℕ → Bool → Option ℕ
or_403 (Some status) lacks = Some status
or_403 None lacks = if lacks then Some 403 else None

-- The status of a request's refusal, the first that applies: 501, 404, 400, 403.
abbrev pub refusal : Request → Option ℕ
refusal request = or_403 (unmet request.route) (needs_session request.route && is_none request.session)
