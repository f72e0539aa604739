-- Who may give a command.
use Rattle.std.specs.Prelude.{ℕ, Bool, true, false, List, Option, Some, None}
use Rattle.site_history.specs.declared.commands.Author.{Author}
use Rattle.site_history.specs.declared.commands.Author.TheVariants.{Named, Session}
use Rattle.site_history.specs.declared.commands.Command.{Command}
use Rattle.site_history.specs.declared.commands.Command.TheVariants.{Join, Seed, Unseed, Cert, Table, Diary, Article, Reply, Project, Login, Logout}

abbrev pub has_none : Option Author → Bool
has_none None = true
has_none (Some author) = false

abbrev pub has_session : Option Author → Bool
has_session None = false
has_session (Some (Named name)) = false
has_session (Some (Session name token)) = true

-- No author, or one in a session.
abbrev pub is_not_named : Option Author → Bool
is_not_named None = true
is_not_named (Some (Named name)) = false
is_not_named (Some (Session name token)) = true

abbrev pub has_author : Option Author → Bool
has_author None = false
has_author (Some author) = true

-- Whether a command may have this author: a join and a login have none, a logout has a session, seeds and tables have none or a session,
-- and certificates and posts have an author.
abbrev pub may_have : Command → Option Author → Bool
may_have (Join name secret) author = has_none author
may_have (Seed subject) author = is_not_named author
may_have (Unseed subject) author = is_not_named author
may_have (Cert subject level) author = has_author author
may_have (Table caps) author = is_not_named author
may_have (Diary text) author = has_author author
may_have (Article title text) author = has_author author
may_have (Reply article text) author = has_author author
may_have (Project name text) author = has_author author
may_have (Login name proof token) author = has_none author
may_have Logout author = has_session author

-- The name that an author gives.
abbrev pub author_name : Author → List ℕ
author_name (Named name) = name
author_name (Session name token) = name
