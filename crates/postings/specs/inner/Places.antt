-- Where posts stand. The crate's own functions alone speak of it.
use Rattle.std.specs.Prelude.{ℕ, ◌≡◌, ◌<◌, List, Some, map, filter, slice_get}
use Rattle.trust_types.specs.declared.records.Record.{Record}
use Rattle.name_index.specs.Numbers.{AreNumbersOf}
use Rattle.postings.specs.declared.places.Places.{Places}
use Rattle.postings.specs.declared.places.Room.{Room}
use Rattle.postings.specs.declared.places.Room.TheVariants as rooms
use Rattle.postings.specs.Posts.{diary_of, articles, replies_to, is_project, projects}
use Rattle.postings.specs.inner.Shelves.{places_at, room_at}

-- At the places stand these of the posts, in this order.
abbrev pub AreAt : List Record → List ℕ → List Record → Type 0
AreAt posts places some = map (slice_get posts) places ≡ map Some some

-- The places tell each post's by its number.
pub record ArePlacesOf (posts : List Record) (places : Places) : Type 0 where
  pub diaries : (author : ℕ) → AreAt posts (places_at places.diaries author) (diary_of posts author)
  pub articles : AreAt posts places.articles.places (articles posts)
  pub replies : (article : ℕ) → AreAt posts (places_at places.replies article) (replies_to posts article)
  pub names : AreNumbersOf (projects posts) places.names.entries
  pub projects : AreAt posts places.projects.places (filter is_project posts)

-- There is room for one more.
abbrev pub HasRoom : Places → Room → Type 0
HasRoom places (rooms.Diary author) = 0 < room_at places.diaries author
HasRoom places rooms.Article = 0 < places.articles.room
HasRoom places (rooms.Reply article) = 0 < room_at places.replies article
HasRoom places rooms.Project = (0 < places.projects.room) × (0 < places.names.room)
