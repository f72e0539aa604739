-- The posts of a site: which records are posts, and how they are numbered. A site's posts are a list of records in the order in which they were
-- added.
use Rattle.std.specs.Prelude.{ℕ, Bool, false, List, Option, Some, None, ◌==◌, ◌≡◌, ◌<◌, is_some, length, filter, filter_map}
use Rattle.std.specs.Str.{bytes_eq}
use Rattle.trust_types.specs.declared.records.Record.{Record}
use Rattle.trust_types.specs.declared.records.Record.TheVariants.{Diary, Article, Reply, Project}
use Rattle.trust_types.specs.Kept.{is_article, project_of}
use Rattle.trust_types.specs.NameLists.{number_of}
use Rattle.posting_policy.specs.declared.PostKind.{PostKind}
use Rattle.posting_policy.specs.declared.PostKind.TheVariants as kinds
use Rattle.postings.specs.declared.places.Room.{Room}
use Rattle.postings.specs.declared.places.Room.TheVariants as rooms

-- The posts in the order in which they were added, and for what post room is reserved.
pub record Posts : Type 0 where
  pub posts : List Record
  pub room : Option Room

-- Whether a record is an entry of this account's diary.
abbrev pub is_diary_of : ℕ → Record → Bool
is_diary_of a (Diary moment author text) = a == author
is_diary_of a _ = false

-- Whether it is a reply to this article.
abbrev pub is_reply_to : ℕ → Record → Bool
is_reply_to n (Reply moment author article text) = n == article
is_reply_to n _ = false

-- Whether it opens a project, and whether one of this name.
abbrev pub is_project : Record → Bool
is_project x = is_some (project_of x)

abbrev pub is_project_named : List ℕ → Record → Bool
is_project_named word (Project moment author name text) = bytes_eq name word
is_project_named word _ = false

-- The diary of an account, the articles, the replies to one of them, the names of the projects: each in the order of their numbers, from 0.
abbrev pub diary_of : List Record → ℕ → List Record
diary_of posts a = filter (is_diary_of a) posts

abbrev pub articles : List Record → List Record
articles posts = filter is_article posts

abbrev pub replies_to : List Record → ℕ → List Record
replies_to posts n = filter (is_reply_to n) posts

abbrev pub projects : List Record → List (List ℕ)
projects posts = filter_map project_of posts

-- For what post room is reserved where it is for this record, if that is a post.
abbrev pub room_of : Record → Option Room
room_of (Diary moment author text) = Some (rooms.Diary author)
room_of (Article moment author title text) = Some rooms.Article
room_of (Reply moment author article text) = Some (rooms.Reply article)
room_of (Project moment author name text) = Some rooms.Project
room_of _ = None

-- For what post it is reserved by kind, with the author of a diary and the article of a reply.
abbrev pub room_for : PostKind → ℕ → ℕ → Room
room_for kinds.Diary author article = rooms.Diary author
room_for kinds.Article author article = rooms.Article
room_for kinds.Reply author article = rooms.Reply article
room_for kinds.Project author article = rooms.Project

-- A reply's article is there, and a project's name is free.
abbrev pub Follows : List Record → Record → Type 0
Follows posts (Reply moment author article text) = article < length (articles posts)
Follows posts (Project moment author name text) = number_of (projects posts) name ≡ None
Follows posts _ = Unit {0}

-- The number that a post gets after these: of the author's diary, of the articles, of the replies to its article, of the projects.
abbrev pub number_after : List Record → Record → ℕ
number_after posts (Diary moment author text) = length (diary_of posts author)
number_after posts (Article moment author title text) = length (articles posts)
number_after posts (Reply moment author article text) = length (replies_to posts article)
number_after posts (Project moment author name text) = length (projects posts)
number_after posts _ = 0
