-- Whom the site lets post: it goes by the level that the author holds in the last publication, whatever was certified since.
use Rattle.std.specs.Prelude.{ℕ, Bool, true, false, ◌≡◌, ◌<◌, ◌≤◌, Option, Some, None}
use Rattle.trust_types.specs.declared.levels.Level.{Level}
use Rattle.trust_types.specs.Levels.{rank}
use Rattle.trust_types.specs.Kept.{accounts}
use Rattle.posting_policy.specs.declared.PostKind.{PostKind}
use Rattle.posting_policy.specs.declared.PostKind.TheVariants as kinds
use Rattle.posting_policy.specs.Policy.{needs}
use Rattle.site_history.specs.declared.acts.Act.{Act}
use Rattle.site_history.specs.declared.commands.Command.{Command}
use Rattle.site_history.specs.declared.commands.Command.TheVariants.{Diary, Article, Reply as ReplyTo, Project}
use Rattle.site_history.specs.declared.replies.Reply.{Reply}
use Rattle.site_history.specs.declared.replies.Reply.TheVariants.{Posted, NoSession, NoSuchAuthor, NoSuchArticle, BadName, NameTaken, LongText, Denied, Fault}
use Rattle.site_history.specs.Histories.{History, records, author_of}
use Rattle.site_history.specs.Held.{level_of}

-- The kind of post that a command asks for.
abbrev pub kind_asked : Command → Option PostKind
kind_asked (Diary text) = Some kinds.Diary
kind_asked (Article title text) = Some kinds.Article
kind_asked (ReplyTo article text) = Some kinds.Reply
kind_asked (Project name text) = Some kinds.Project
kind_asked _ = None

-- Whether a reply refuses a post for its author or its words, which comes before the author's level is looked at.
abbrev pub is_before_level : Reply → Bool
is_before_level NoSession = true
is_before_level NoSuchAuthor = true
is_before_level NoSuchArticle = true
is_before_level BadName = true
is_before_level (NameTaken n) = true
is_before_level (LongText length) = true
is_before_level _ = false

-- The reply to a post of this kind by an author of this level. It's accepted only where the level is at least the one that the kind needs; so it is where
-- the keeper then failed. It's denied only where the level is lower. Any other reply refuses it for its author or its words.
abbrev pub GoesByLevel : PostKind → Level → Reply → Type 0
GoesByLevel kind held (Posted posted number) = (posted ≡ kind) × (rank (needs kind) ≤ rank held)
GoesByLevel kind held Fault = rank (needs kind) ≤ rank held
GoesByLevel kind held (Denied told needed) = (told ≡ held) × (needed ≡ needs kind) × (rank held < rank (needs kind))
GoesByLevel kind held reply = is_before_level reply ≡ true

abbrev pub GoesByLevelOf : Option PostKind → Level → Reply → Type 0
GoesByLevelOf None held reply = Unit {0}
GoesByLevelOf (Some kind) held reply = GoesByLevel kind held reply

-- A post is admitted exactly where its author's level in the last publication meets the policy.
abbrev pub IsAdmitted : History → Act → Reply → Type 0
IsAdmitted h act reply = GoesByLevelOf (kind_asked act.command) (level_of h (author_of (accounts (records h)) act.author)) reply
