-- The one reply that a history gives to an act: the first refusal that applies, else that it is accepted.
use Rattle.std.specs.Prelude.{ℕ, Bool, true, ◌==◌, ◌+◌, List, Option, Some, None, Result, Ok, Err, length, if◌then◌else◌}
use Rattle.trust_types.specs.declared.levels.Level.{Level}
use Rattle.trust_types.specs.NameLists.{number_of}
use Rattle.cert_book.specs.declared.judging.CertFault.{CertFault}
use Rattle.cert_book.specs.declared.judging.CertFault.TheVariants as certs
use Rattle.cert_book.specs.Judged.{judged_join, judged_seed, judged_unseed, judged_cert, judged_table}
use Rattle.posting_policy.specs.declared.PostKind.{PostKind}
use Rattle.posting_policy.specs.declared.PostKind.TheVariants as kinds
use Rattle.posting_policy.specs.Policy.{needs, admits}
use Rattle.postings.specs.declared.judging.PostFault.{PostFault}
use Rattle.postings.specs.declared.judging.PostFault.TheVariants as posts
use Rattle.postings.specs.Posts.{diary_of, articles, replies_to, projects}
use Rattle.postings.specs.Judged.{judged_diary, judged_article, judged_reply, judged_project}
use Rattle.sessions.specs.declared.live.LoginFault.{LoginFault}
use Rattle.sessions.specs.declared.live.LoginFault.TheVariants as logins
use Rattle.sessions.specs.Sessions.{who, judged_login}
use Rattle.site_history.specs.declared.acts.Act.{Act}
use Rattle.site_history.specs.declared.commands.Author.{Author}
use Rattle.site_history.specs.declared.commands.Author.TheVariants as author
use Rattle.site_history.specs.declared.commands.Command.{Command}
use Rattle.site_history.specs.declared.commands.Command.TheVariants.{Join, Seed, Unseed, Cert, Table, Diary, Article, Reply as ReplyTo, Project, Login, Logout}
use Rattle.site_history.specs.declared.replies.Reply.{Reply}
use Rattle.site_history.specs.declared.replies.Reply.TheVariants.{Joined, Revised, Posted, LoggedIn, LoggedOut, NoSession, NoSuchAuthor, BadName, NameTaken, AccountsFull, NoSuchAccount, SelfCert, NoSuchLevel, Same, CertsFull, NotSeed, LastSeed, LevelsFall, NoSuchArticle, LongText, WrongPassword, TokenTaken, SessionsFull, Denied, NotSteward}
use Rattle.site_history.specs.Histories.{History}
use Rattle.site_history.specs.Sites.{Site, site_of, secret_at}
use Rattle.site_history.specs.Held.{level_of}

-- The account that has a name, where it is also the one that is logged in.
abbrev pub same_account : Option ℕ → Option ℕ → Result (Option ℕ) Reply
same_account None session = Err NoSession
same_account (Some a) None = Err NoSession
same_account (Some a) (Some b) = if a == b then Ok (Some a) else Err NoSession

-- The account that has a name.
abbrev pub named_account : Option ℕ → Result (Option ℕ) Reply
named_account None = Err NoSuchAuthor
named_account (Some a) = Ok (Some a)

-- The account that an author is, where there is an author.
abbrev pub judged_author : Site → Option Author → Result (Option ℕ) Reply
judged_author s None = Ok None
judged_author s (Some (author.Named name)) = named_account (number_of s.certs.names name)
judged_author s (Some (author.Session name token)) = same_account (number_of s.certs.names name) (who s.live token)

-- How a refusal of the certificates, the posts or the sessions is answered.
abbrev pub cert_refusal : CertFault → Reply
cert_refusal certs.BadName = BadName
cert_refusal (certs.NameTaken a) = NameTaken a
cert_refusal certs.AccountsFull = AccountsFull
cert_refusal certs.NoSuchAccount = NoSuchAccount
cert_refusal certs.SelfCert = SelfCert
cert_refusal (certs.NoSuchLevel levels) = NoSuchLevel levels
cert_refusal certs.Same = Same
cert_refusal certs.CertsFull = CertsFull
cert_refusal certs.NotSeed = NotSeed
cert_refusal certs.LastSeed = LastSeed
cert_refusal (certs.LevelsFall levels) = LevelsFall levels

abbrev pub post_refusal : PostFault → Reply
post_refusal posts.NoSuchArticle = NoSuchArticle
post_refusal posts.BadName = BadName
post_refusal (posts.NameTaken n) = NameTaken n
post_refusal (posts.LongText n) = LongText n

abbrev pub login_refusal : LoginFault → Reply
login_refusal logins.WrongPassword = WrongPassword
login_refusal logins.TokenTaken = TokenTaken
login_refusal logins.SessionsFull = SessionsFull

-- The reply where the certificates accept, or their refusal.
abbrev pub by_certs : {A : Type 0} → Result A CertFault → Reply → Reply
by_certs (Err fault) accepted = cert_refusal fault
by_certs (Ok x) accepted = accepted

-- Whether an author may change seeds and the table: a seed may, and so may the site's operator, who gives no author.
abbrev pub is_steward : Site → Option ℕ → Bool
is_steward s None = true
is_steward s (Some a) = s.certs.is_seed a

-- The reply to a steward.
abbrev pub by_steward : Site → Option ℕ → Reply → Reply
by_steward s author accepted = if is_steward s author then accepted else NotSteward

-- A post without a fault is admitted where its author holds the level that its kind needs.
abbrev pub by_posts : Result (Unit {0}) PostFault → PostKind → Level → ℕ → Reply
by_posts (Err fault) kind held number = post_refusal fault
by_posts (Ok x) kind held number = if admits kind held then Posted kind number else Denied held (needs kind)

abbrev pub by_sessions : Result (Unit {0}) LoginFault → ℕ → Reply
by_sessions (Err fault) account = login_refusal fault
by_sessions (Ok x) account = LoggedIn account

-- The reply to a login of the account that has the name.
abbrev pub logged_in : Site → Option ℕ → List ℕ → List ℕ → Reply
logged_in s None proof token = NoSuchAccount
logged_in s (Some a) proof token = by_sessions (judged_login (secret_at s a) proof s.live token) a

-- The account of an author. Commands without an author look at none.
abbrev pub number_in : Option ℕ → ℕ
number_in None = 0
number_in (Some a) = a

-- The reply to an accepted command that changes the graph or the table.
abbrev pub revised : Site → Reply
revised s = Revised (s.certs.revision + 1)

-- The reply to a command, of an author that holds a level.
abbrev pub reply_to : Site → Level → Option ℕ → Command → Reply
reply_to s held author (Join name secret) = by_certs (judged_join s.certs name) (Joined (length s.certs.names))
reply_to s held author (Seed subject) = by_certs (judged_seed s.certs subject) (by_steward s author (revised s))
reply_to s held author (Unseed subject) = by_certs (judged_unseed s.certs subject) (by_steward s author (revised s))
reply_to s held author (Cert subject level) = by_certs (judged_cert s.certs (number_in author) subject level) (revised s)
reply_to s held author (Table caps) = by_certs (judged_table s.certs caps) (by_steward s author (revised s))
reply_to s held author (Diary text) = by_posts (judged_diary text) kinds.Diary held (length (diary_of s.posts (number_in author)))
reply_to s held author (Article title text) = by_posts (judged_article title text) kinds.Article held (length (articles s.posts))
reply_to s held author (ReplyTo article text) = by_posts (judged_reply s.posts article text) kinds.Reply held (length (replies_to s.posts article))
reply_to s held author (Project name text) = by_posts (judged_project s.posts name text) kinds.Project held (length (projects s.posts))
reply_to s held author (Login name proof token) = logged_in s (number_of s.certs.names name) proof token
reply_to s held author Logout = LoggedOut

-- The reply where the author was judged.
abbrev pub reply_by : History → Command → Result (Option ℕ) Reply → Reply
reply_by h command (Err refusal) = refusal
reply_by h command (Ok author) = reply_to (site_of h) (level_of h (number_in author)) author command

-- The one reply to an act.
unfoldable pub judge : History → Act → Reply
judge h act = reply_by h act.command (judged_author (site_of h) act.author)
