-- What is shown of a site: of its records, and of the levels that its accounts hold.
use Rattle.std.specs.Prelude.{ℕ, List, [], ◌∷◌, Option, Some, None, length, map, take, filter, find, slice_get, slice_index_or, if◌then◌else◌}
use Rattle.std.specs.List.{range_with_len, enumerate_from}
use mathlib.Core.List.{reverse}
use Rattle.trust_types.specs.declared.levels.Level.{Level}
use Rattle.trust_types.specs.declared.records.Record.{Record}
use Rattle.trust_types.specs.declared.records.Record.TheVariants as kept
use Rattle.trust_types.specs.Names.{is_name}
use Rattle.trust_types.specs.NameLists.{number_of}
use Rattle.trust_types.specs.Tables as tables
use Rattle.cert_book.specs.Books.{accounts, given, taken}
use Rattle.postings.specs.Posts.{diary_of, articles, replies_to, is_project_named}
use Rattle.site_history.specs.declared.queries.Query.{Query}
use Rattle.site_history.specs.declared.queries.Query.TheVariants as asked
use Rattle.site_history.specs.declared.views.ArticleHead.{ArticleHead}
use Rattle.site_history.specs.declared.views.PostView.{PostView}
use Rattle.site_history.specs.declared.views.View.{View}
use Rattle.site_history.specs.declared.views.View.TheVariants as views
use Rattle.site_history.specs.Histories.{History}
use Rattle.site_history.specs.Held.{level_of}
use Rattle.site_history.specs.Sites.{Site, site_of}

-- An account: the level that it holds, and its certificates by the name of the other account.
pub record Person : Type 0 where
  pub name : List ℕ
  pub level : Level
  pub given : List (List ℕ × Level)
  pub taken : List (List ℕ × Level)

pub record Article : Type 0 where
  pub no : ℕ
  pub title : List ℕ
  pub post : PostView
  pub replies : List PostView

pub data Shown : Type 0 where
  Front : List ArticleHead → Shown
  OfPerson : Person → Shown
  OfDiary : List ℕ → List PostView → Shown
  OfArticle : Article → Shown
  OfProject : List ℕ → PostView → Shown
  OfStewards : tables.Table → List (List ℕ) → Shown
  Missing : Shown

-- What a view says: its lists by their items, and all else by its value.
abbrev pub said : View → Shown
said (views.Front heads) = Front heads.items
said (views.Person p) = OfPerson (record { name = p.name; level = p.level; given = p.given.items; taken = p.taken.items })
said (views.Diary d) = OfDiary d.name d.posts.items
said (views.Article a) = OfArticle (record { no = a.no; title = a.title; post = a.post; replies = a.replies.items })
said (views.Project p) = OfProject p.name p.post
said (views.Stewards s) = OfStewards s.caps s.seeds.items
said views.Missing = Missing

-- How much is shown: of what is new the newest 20, newest first; of what is listed the first 200.
abbrev pub newest : {A : Type 0} → List A → List A
newest xs = take 20 (reverse xs)

abbrev pub first_ones : {A : Type 0} → List A → List A
first_ones xs = take 200 xs

abbrev pub name_of : Site → ℕ → List ℕ
name_of s account = slice_index_or s.certs.names account []

-- A record as a post. One that is none isn't asked for.
abbrev pub post_of : Site → Record → PostView
post_of s (kept.Diary moment author text) = record { author = name_of s author; moment = moment; text = text }
post_of s (kept.Article moment author title text) = record { author = name_of s author; moment = moment; text = text }
post_of s (kept.Reply moment author article text) = record { author = name_of s author; moment = moment; text = text }
post_of s (kept.Project moment author name text) = record { author = name_of s author; moment = moment; text = text }
post_of s _ = record { author = []; moment = 0; text = [] }

abbrev pub title_of : Record → List ℕ
title_of (kept.Article moment author title text) = title
title_of _ = []

-- The newest articles, by number, without their texts.
abbrev pub head_of : Site → ℕ × Record → ArticleHead
head_of s (n, x) = record { no = n; title = title_of x; author = (post_of s x).author }

abbrev pub front_of : Site → List ArticleHead
front_of s = map (head_of s) (newest (enumerate_from 0 (articles s.posts)))

-- The first certificates of an account for others, and of others for it, by account number.
abbrev pub given_by : Site → ℕ → List (List ℕ × Level)
given_by s account = map (λ c. (name_of s c.to, c.level)) (first_ones (given s.certs account))

abbrev pub taken_by : Site → ℕ → List (List ℕ × Level)
taken_by s account = map (λ c. (name_of s c.from, c.level)) (first_ones (taken s.certs account))

-- The newest entries of an account's diary, and the first replies to an article.
abbrev pub entries_of : Site → ℕ → List PostView
entries_of s account = map (post_of s) (newest (diary_of s.posts account))

abbrev pub replies_shown : Site → ℕ → List PostView
replies_shown s n = map (post_of s) (first_ones (replies_to s.posts n))

-- The names of the first seeds, by account number.
abbrev pub seeds_shown : Site → List (List ℕ)
seeds_shown s = map (name_of s) (first_ones (filter s.certs.is_seed (accounts s.certs)))

-- What is shown where nothing has the name or number, and else of the account, article or project that has it.
abbrev pub person_shown : Site → (ℕ → Level) → List ℕ → Option ℕ → Shown
person_shown s held name None = Missing
person_shown s held name (Some a) = OfPerson (record { name = name; level = held a; given = given_by s a; taken = taken_by s a })

abbrev pub diary_shown : Site → List ℕ → Option ℕ → Shown
diary_shown s name None = Missing
diary_shown s name (Some a) = OfDiary name (entries_of s a)

abbrev pub article_shown : Site → ℕ → Option Record → Shown
article_shown s n None = Missing
article_shown s n (Some x) = OfArticle (record { no = n; title = title_of x; post = post_of s x; replies = replies_shown s n })

abbrev pub project_shown : Site → List ℕ → Option Record → Shown
project_shown s name None = Missing
project_shown s name (Some x) = OfProject name (post_of s x)

-- The project of that name. A word that is no name is none's.
abbrev pub project_named : Site → List ℕ → Option Record
project_named s word = if is_name word then find (is_project_named word) s.posts else None

-- What a query shows of a site whose accounts hold these levels.
abbrev pub shown_of : Site → (ℕ → Level) → Query → Shown
shown_of s held asked.Front = Front (front_of s)
shown_of s held (asked.Person name) = person_shown s held name (number_of s.certs.names name)
shown_of s held (asked.Diary name) = diary_shown s name (number_of s.certs.names name)
shown_of s held (asked.Article n) = article_shown s n (slice_get (articles s.posts) n)
shown_of s held (asked.Project name) = project_shown s name (project_named s name)
shown_of s held asked.Stewards = OfStewards s.certs.table (seeds_shown s)

-- What a query shows.
unfoldable pub shown : History → Query → Shown
shown h query = shown_of (site_of h) (level_of h) query
