-- Who is logged in after a history. Sessions aren't kept: none is live when a site is opened.
use Rattle.std.specs.Prelude.{ℕ, List, [], ◌∷◌, ◌++◌, Option, Some, None, fold}
use Rattle.sessions.specs.Sessions.{Session, without}
use Rattle.site_history.specs.declared.acts.Act.{Act}
use Rattle.site_history.specs.declared.commands.Author.{Author}
use Rattle.site_history.specs.declared.commands.Author.TheVariants as author
use Rattle.site_history.specs.declared.commands.Command.{Command}
use Rattle.site_history.specs.declared.commands.Command.TheVariants.{Login}
use Rattle.site_history.specs.declared.replies.Reply.{Reply}
use Rattle.site_history.specs.declared.replies.Reply.TheVariants.{LoggedIn, LoggedOut}
use Rattle.site_history.specs.Histories.{Entry, Done, Freeze, Publish, KeeperFault, History}

-- With the session of a login.
abbrev pub with_login : List Session → ℕ → Command → List Session
with_login live account (Login name proof token) = live ++ (token, account) ∷ []
with_login live account _ = live

-- Without the session of an author.
abbrev pub without_author : List Session → Option Author → List Session
without_author live None = live
without_author live (Some (author.Named name)) = live
without_author live (Some (author.Session name token)) = without live token

-- The sessions after an act with its reply.
abbrev pub live_by : List Session → Act → Reply → List Session
live_by live act (LoggedIn account) = with_login live account act.command
live_by live act LoggedOut = without_author live act.author
live_by live act _ = live

abbrev pub live_after : List Session → Entry → List Session
live_after live (Done caller act reply moment) = live_by live act reply
live_after live (Freeze caller revision) = live
live_after live (Publish caller p) = live
live_after live (KeeperFault caller) = live

-- The live sessions, by token and account: those of each login that no later logout ended.
unfoldable pub live : History → List Session
live h = fold live_after [] h.entries
