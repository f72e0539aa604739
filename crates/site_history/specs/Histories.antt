-- What happened to a site. All else that is said of a site is read of its history.
use Rattle.std.specs.Prelude.{ℕ, Bool, true, false, List, [], ◌∷◌, ◌++◌, ◌+◌, Option, Some, None, length, map, drop, fold, filter, filter_map, is_some, unwrap_or, option_map, option_to_list, if◌then◌else◌}
use Rattle.std.specs.List.{last_or}
use Rattle.trust_types.specs.declared.records.Record.{Record}
use Rattle.trust_types.specs.declared.records.Record.TheVariants as kept
use Rattle.trust_types.specs.Tables as tables
use Rattle.trust_types.specs.Kept.{accounts, change_of}
use Rattle.trust_types.specs.NameLists.{number_of}
use Rattle.roster_form.specs.Candidates.{Rosters}
use Rattle.site_history.specs.declared.acts.Act.{Act}
use Rattle.site_history.specs.declared.commands.Author.{Author}
use Rattle.site_history.specs.declared.commands.Command.{Command}
use Rattle.site_history.specs.declared.commands.Command.TheVariants.{Join, Seed, Unseed, Cert, Table, Diary, Article, Reply, Project, Login, Logout}
use Rattle.site_history.specs.declared.replies.Reply as replies
use Rattle.site_history.specs.declared.replies.Reply.TheVariants.{Joined, Revised, Posted}
use Rattle.site_history.specs.Acts.{author_name}

-- What is published: its number, the revision that it is of, and for each grade of the table at that revision, lowest first, the accounts
-- that it accepts.
pub record Published : Type 0 where
  pub number : ℕ
  pub revision : ℕ
  pub served : List (List ℕ)

-- What is published of a candidate under a number.
abbrev pub published_of : ℕ → Rosters → Published
published_of number c = record { number = number; revision = c.graph.number; served = map (λ r. r.served) c.grades }

-- What a caller did: an act, with its reply and moment; a freeze, at a revision; a publication; or an act that was accepted but for the
-- keeper, which failed.
pub data Entry : Type 0 where
  Done : ℕ → Act → replies.Reply → ℕ → Entry
  Freeze : ℕ → ℕ → Entry
  Publish : ℕ → Published → Entry
  KeeperFault : ℕ → Entry

-- The table that a site began with, the records that it was opened with, and what happened since.
pub record History : Type 0 where
  pub opening : tables.Table
  pub opened : List Record
  pub entries : List Entry

-- A site that was opened with these records, to which nothing happened yet.
abbrev pub just_opened : tables.Table → List Record → History
just_opened table k = record { opening = table; opened = k; entries = [] }

-- With one more record with which it was opened.
abbrev pub with_opened : History → Record → History
with_opened h x = record h { opened = h.opened ++ x ∷ [] }

-- With one entry more.
abbrev pub with_entry : History → Entry → History
with_entry h e = record h { entries = h.entries ++ e ∷ [] }

-- How many places it has: one for each opened record and each entry.
abbrev pub places : History → ℕ
places h = length h.opened + length h.entries

-- The number of the account of that name, among the accounts' names. Nothing is asked of it where there is none.
abbrev pub account_of : List (List ℕ) → List ℕ → ℕ
account_of names name = unwrap_or (number_of names name) 0

abbrev pub author_of : List (List ℕ) → Option Author → ℕ
author_of names None = 0
author_of names (Some author) = account_of names (author_name author)

-- The record of a command that an account gives at a moment, among accounts of these names. A login and a logout leave none.
abbrev pub record_of : List (List ℕ) → ℕ → ℕ → Command → Option Record
record_of names author moment (Join name secret) = Some (kept.Join moment name secret)
record_of names author moment (Seed subject) = Some (kept.Seed moment (account_of names subject))
record_of names author moment (Unseed subject) = Some (kept.Unseed moment (account_of names subject))
record_of names author moment (Cert subject level) = Some (kept.Cert moment author (account_of names subject) level)
record_of names author moment (Table caps) = Some (kept.Table moment caps)
record_of names author moment (Diary text) = Some (kept.Diary moment author text)
record_of names author moment (Article title text) = Some (kept.Article moment author title text)
record_of names author moment (Reply article text) = Some (kept.Reply moment author article text)
record_of names author moment (Project name text) = Some (kept.Project moment author name text)
record_of names author moment (Login name proof token) = None
record_of names author moment Logout = None

-- Whether a reply says that a record was added.
abbrev pub is_kept : replies.Reply → Bool
is_kept (Joined account) = true
is_kept (Revised revision) = true
is_kept (Posted kind number) = true
is_kept _ = false

-- The record that an entry adds to those before.
abbrev pub record_added : List Record → Entry → Option Record
record_added k (Done caller act reply moment) = if is_kept reply then record_of (accounts k) (author_of (accounts k) act.author) moment act.command else None
record_added k (Freeze caller revision) = None
record_added k (Publish caller p) = None
record_added k (KeeperFault caller) = None

abbrev pub records_after : List Record → Entry → List Record
records_after k e = k ++ option_to_list (record_added k e)

-- The records: those that it was opened with, and then the record of each act that was accepted, with the account numbers that its names
-- had there.
unfoldable pub records : History → List Record
records h = fold records_after h.opened h.entries

-- Whether a record changes the graph or the table, and the records that do.
abbrev pub changes_graph : Record → Bool
changes_graph x = is_some (change_of x)

abbrev pub graph_records : List Record → List Record
graph_records k = filter changes_graph k

-- Of these, the records that entries added.
abbrev pub records_added : History → List Record
records_added h = drop (length h.opened) (records h)

abbrev pub published_by : Entry → Option Published
published_by (Done caller act reply moment) = None
published_by (Freeze caller revision) = None
published_by (Publish caller p) = Some p
published_by (KeeperFault caller) = None

-- The publications, in order.
unfoldable pub publications : History → List Published
publications h = filter_map published_by h.entries

abbrev pub last_published : History → Option Published
last_published h = last_or None (publications h)

-- The revision of the last publication, where there is one.
abbrev pub last_revision : History → Option ℕ
last_revision h = option_map (λ p. p.revision) (last_published h)

-- Whether an entry is a fault of the keeper.
abbrev pub is_fault : Entry → Bool
is_fault (Done caller act reply moment) = false
is_fault (Freeze caller revision) = false
is_fault (Publish caller p) = false
is_fault (KeeperFault caller) = true
