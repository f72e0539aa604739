-- How many bytes of text a history has.
use Rattle.std.specs.Prelude.{ℕ, Option, Some, None, ◌+◌, length, sum_by}
use Rattle.trust_types.specs.declared.records.Record.{Record}
use Rattle.trust_types.specs.declared.records.Record.TheVariants as kept
use Rattle.site_history.specs.declared.acts.Act.{Act}
use Rattle.site_history.specs.declared.commands.Author.{Author}
use Rattle.site_history.specs.declared.commands.Command.{Command}
use Rattle.site_history.specs.declared.commands.Command.TheVariants.{Join, Seed, Unseed, Cert, Table, Diary, Article, Reply, Project, Login, Logout}
use Rattle.site_history.specs.Acts.{author_name}
use Rattle.site_history.specs.Histories.{Entry, Done, Freeze, Publish, KeeperFault, History}

-- Names, titles and texts count.
abbrev pub texts_in_record : Record → ℕ
texts_in_record (kept.Join moment name secret) = length name
texts_in_record (kept.Seed moment subject) = 0
texts_in_record (kept.Unseed moment subject) = 0
texts_in_record (kept.Cert moment author subject level) = 0
texts_in_record (kept.Table moment caps) = 0
texts_in_record (kept.Diary moment author text) = length text
texts_in_record (kept.Article moment author title text) = length title + length text
texts_in_record (kept.Reply moment author article text) = length text
texts_in_record (kept.Project moment author name text) = length name + length text

abbrev pub texts_in_command : Command → ℕ
texts_in_command (Join name secret) = length name
texts_in_command (Seed subject) = length subject
texts_in_command (Unseed subject) = length subject
texts_in_command (Cert subject level) = length subject
texts_in_command (Table caps) = 0
texts_in_command (Diary text) = length text
texts_in_command (Article title text) = length title + length text
texts_in_command (Reply article text) = length text
texts_in_command (Project name text) = length name + length text
texts_in_command (Login name proof token) = length name
texts_in_command Logout = 0

abbrev pub texts_in_author : Option Author → ℕ
texts_in_author None = 0
texts_in_author (Some author) = length (author_name author)

-- Of an act the author's name counts too.
abbrev pub texts_in : Act → ℕ
texts_in act = texts_in_author act.author + texts_in_command act.command

-- Acts count whether or not they were accepted; a fault of the keeper has none.
abbrev pub texts_in_entry : Entry → ℕ
texts_in_entry (Done caller act reply moment) = texts_in act
texts_in_entry (Freeze caller revision) = 0
texts_in_entry (Publish caller p) = 0
texts_in_entry (KeeperFault caller) = 0

unfoldable pub texts : History → ℕ
texts h = sum_by texts_in_record h.opened + sum_by texts_in_entry h.entries
