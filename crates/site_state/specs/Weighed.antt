-- What becomes of a command, as it was judged.
use Rattle.std.specs.Prelude.{ℕ, Bool, true, ◌≡◌, List, Option, Some, None, Ok, is_some}
use Rattle.trust_types.specs.declared.levels.Level.{Level}
use Rattle.trust_types.specs.declared.records.Record.{Record}
use Rattle.posting_policy.specs.declared.PostKind.{PostKind}
use Rattle.postings.specs.Judged as posts
use Rattle.sessions.specs.Sessions.{who}
use Rattle.site_history.specs.declared.commands.Author.{Author}
use Rattle.site_history.specs.declared.commands.Author.TheVariants.{Named, Session}
use Rattle.site_history.specs.declared.commands.Command.{Command}
use Rattle.site_history.specs.declared.commands.Command.TheVariants.{Join, Seed, Unseed, Cert, Table, Diary, Article, Reply, Project, Login, Logout}
use Rattle.site_history.specs.declared.replies.Reply.TheVariants.{LoggedIn, LoggedOut}
use Rattle.site_history.specs.Answers.{is_refusal}
use Rattle.trust_types.specs.Kept.{accounts}
use Rattle.site_history.specs.declared.acts.Act.{Act}
use Rattle.site_history.specs.Histories.{History, records, is_kept, record_of, author_of}
use Rattle.site_history.specs.Live.{live}
use Rattle.site_history.specs.Replies.{judge, reply_to, by_steward, by_posts, number_in, revised}
use Rattle.site_history.specs.Sites.{Site, site_of}
use Rattle.site_state.specs.declared.judged.Judged.{Judged}
use Rattle.site_state.specs.declared.judged.Judged.TheVariants.{Refused, Kept, LogsIn, LogsOut}
use Rattle.site_state.specs.inner.Parts.{CanAdd}

-- The token of a login.
abbrev pub token_of : Command → Option (List ℕ)
token_of (Login name proof token) = Some token
token_of _ = None

-- The token of an author's session.
abbrev pub author_token : Option Author → Option (List ℕ)
author_token None = None
author_token (Some (Named name)) = None
author_token (Some (Session name token)) = Some token

-- Whether a command that has an author was given one.
abbrev pub is_given : Command → Option ℕ → Bool
is_given (Join name secret) author = true
is_given (Seed subject) author = true
is_given (Unseed subject) author = true
is_given (Cert subject level) author = is_some author
is_given (Table caps) author = true
is_given (Diary text) author = is_some author
is_given (Article title text) author = is_some author
is_given (Reply article text) author = is_some author
is_given (Project name text) author = is_some author
is_given (Login name proof token) author = true
is_given Logout author = true

-- The reply is the one that the site gives, and it says what becomes of the command: a refusal changes nothing; an accepted command has its
-- record, which may be added; a login has a token under which nobody is logged in.
abbrev pub IsWeighed : Site → Level → Option ℕ → ℕ → Command → Judged → Type 0
IsWeighed s held author moment command (Refused reply) = (reply ≡ reply_to s held author command) × (is_refusal reply ≡ true)
IsWeighed s held author moment command (Kept x reply) =
    (reply ≡ reply_to s held author command) × (is_kept reply ≡ true) × (record_of s.certs.names (number_in author) moment command ≡ Some x)
    × CanAdd s.certs s.posts x
IsWeighed s held author moment command (LogsIn account token) =
    (reply_to s held author command ≡ LoggedIn account) × (token_of command ≡ Some token) × (who s.live token ≡ None)
IsWeighed s held author moment command LogsOut = (reply_to s held author command ≡ LoggedOut) × (command ≡ Logout)

-- A change was accepted but for its author: a steward's is kept.
abbrev pub IsRuled : Site → Option ℕ → Record → Judged → Type 0
IsRuled s author x (Refused reply) = (reply ≡ by_steward s author (revised s)) × (is_refusal reply ≡ true)
IsRuled s author x (Kept y reply) = (reply ≡ by_steward s author (revised s)) × (is_kept reply ≡ true) × (y ≡ x)
IsRuled s author x (LogsIn account token) = ⊥
IsRuled s author x LogsOut = ⊥

-- A post was judged: one without a fault is kept where its author holds the level that it needs.
abbrev pub IsPosted : posts.Judged → PostKind → Level → ℕ → Record → Judged → Type 0
IsPosted judged kind held number x (Refused reply) = (reply ≡ by_posts judged kind held number) × (is_refusal reply ≡ true)
IsPosted judged kind held number x (Kept y reply) =
    (reply ≡ by_posts judged kind held number) × (is_kept reply ≡ true) × (y ≡ x) × (judged ≡ Ok record {})
IsPosted judged kind held number x (LogsIn account token) = ⊥
IsPosted judged kind held number x LogsOut = ⊥

-- What becomes of an act after a history: as `IsWeighed` says of its command, and where its author is refused, so is the act.
abbrev pub IsJudged : History → Act → ℕ → Judged → Type 0
IsJudged h act moment (Refused reply) = (reply ≡ judge h act) × (is_refusal reply ≡ true)
IsJudged h act moment (Kept x reply) =
    (reply ≡ judge h act) × (is_kept reply ≡ true)
    × (record_of (accounts (records h)) (author_of (accounts (records h)) act.author) moment act.command ≡ Some x)
    × CanAdd (site_of h).certs (site_of h).posts x
IsJudged h act moment (LogsIn account token) =
    (judge h act ≡ LoggedIn account) × (token_of act.command ≡ Some token) × (who (live h) token ≡ None)
IsJudged h act moment LogsOut = (judge h act ≡ LoggedOut) × (act.command ≡ Logout)
