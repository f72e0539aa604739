-- For the state of a site alone: what its parts say of its records, and what a record needs to be added.
use Rattle.std.specs.Prelude.{ℕ, ◌≡◌, ◌<◌, List, Option, Some, None, All, IfSome, length, vec_len, vec_capacity}
use Rattle.trust_types.specs.declared.records.Record.{Record}
use Rattle.trust_types.specs.declared.records.Record.TheVariants.{Join, Seed, Unseed, Cert, Table, Diary, Article, Reply, Project}
use Rattle.trust_types.specs.Changes.{Change}
use Rattle.trust_types.specs.Kept.{change_of, accounts}
use Rattle.trust_types.specs.Tables as tables
use Rattle.cert_book.specs.Books.{Book, Adds, Follows, HasPlace, book}
use Rattle.postings.specs.Posts as posts
use Rattle.site_history.specs.Histories.{graph_records}
use Rattle.site_history.specs.Sites.{Site, site_with, posts_of}
use Rattle.sessions.specs.Sessions.{Session}
use Rattle.site_state.specs.declared.parts.Parts.{Parts}

-- What the parts say of the site.
abbrev pub site_in : Parts → Site
site_in p = record { certs = book p.certs; posts = p.posts.posts; secrets = p.secrets.items; live = p.sessions.live }

-- The record is a post of one of so many accounts.
abbrev pub IsPostedBy : ℕ → Record → Type 0
IsPostedBy n (Diary moment author text) = author < n
IsPostedBy n (Article moment author title text) = author < n
IsPostedBy n (Reply moment author article text) = author < n
IsPostedBy n (Project moment author name text) = author < n
IsPostedBy n _ = ⊥

-- The parts are those of these records and live sessions, of a site that began with this table. Each post is an account's.
pub record ArePartsOf (opening : tables.Table) (k : List Record) (live : List Session) (p : Parts) : Type 0 where
  pub site : site_in p ≡ site_with opening k live
  pub graph : p.graph.items ≡ graph_records k
  pub authors : All (IsPostedBy (length (accounts k))) (posts_of k)

-- The change, where a record makes one, may follow.
abbrev pub MayChange : Book → Option Change → Type 0
MayChange b None = Unit {0}
MayChange b (Some change) = Follows b change × HasPlace b change

-- The record may be added: what it changes may follow, and so may what it posts, which is an account's.
pub record CanAdd (b : Book) (k : List Record) (x : Record) : Type 0 where
  pub change : MayChange b (change_of x)
  pub post : posts.Follows k x
  pub author : IfSome (posts.room_of x) (λ room. IsPostedBy (length b.names) x)

-- The certificates have room for an addition that touches these accounts, and so has the list of records.
pub record HasChangeRoom (p : Parts) (author subject : Option ℕ) : Type 0 where
  pub certs : p.certs.room ≡ Some (record { author = author; subject = subject })
  pub graph : vec_len p.graph < vec_capacity p.graph

-- There is room for the record wherever it is to be added.
abbrev pub HasRoom : Parts → Record → Type 0
HasRoom p (Join moment name secret) = HasChangeRoom p None None × (vec_len p.secrets < vec_capacity p.secrets)
HasRoom p (Seed moment subject) = HasChangeRoom p None (Some subject)
HasRoom p (Unseed moment subject) = HasChangeRoom p None (Some subject)
HasRoom p (Cert moment author subject level) = HasChangeRoom p (Some author) (Some subject)
HasRoom p (Table moment caps) = HasChangeRoom p None None
HasRoom p (Diary moment author text) = p.posts.room ≡ posts.room_of (Diary moment author text)
HasRoom p (Article moment author title text) = p.posts.room ≡ posts.room_of (Article moment author title text)
HasRoom p (Reply moment author article text) = p.posts.room ≡ posts.room_of (Reply moment author article text)
HasRoom p (Project moment author name text) = p.posts.room ≡ posts.room_of (Project moment author name text)

-- The change that a record makes, where it makes one, was made.
abbrev pub IsChanged : Book → Book → Option Change → Type 0
IsChanged old new None = new ≡ old
IsChanged old new (Some change) = Adds old new change

-- Fewer changes and posts than their numbers can count.
pub record AreFew (p : Parts) : Type 0 where
  pub changes : (book p.certs).revision < 4294967295
  pub posts : length p.posts.posts < 4294967295

-- All but the sessions is as it was.
pub record IsSameBut (old new : Parts) : Type 0 where
  pub certs : new.certs ≡ old.certs
  pub posts : new.posts ≡ old.posts
  pub secrets : new.secrets ≡ old.secrets
  pub graph : new.graph ≡ old.graph
