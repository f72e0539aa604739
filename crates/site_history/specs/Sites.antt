-- What is read of a history to answer an act.
use Rattle.std.specs.Prelude.{ℕ, Bool, List, Option, Some, None, filter, filter_map, is_some, slice_index_or}
use Rattle.trust_types.specs.declared.records.Record.{Record}
use Rattle.trust_types.specs.declared.records.Record.TheVariants.{Join}
use Rattle.trust_types.specs.declared.records.Secret.{Secret}
use Rattle.trust_types.specs.declared.records.Secret.TheVariants.{Absent}
use Rattle.trust_types.specs.Kept.{changes}
use Rattle.trust_types.specs.Tables.{Table}
use Rattle.cert_book.specs.Books.{Book, book_of}
use Rattle.postings.specs.Posts.{room_of}
use Rattle.sessions.specs.Sessions.{Session}
use Rattle.site_history.specs.Histories.{History, records}
use Rattle.site_history.specs.Live.{live}

-- The posts among records.
abbrev pub is_post : Record → Bool
is_post x = is_some (room_of x)

abbrev pub posts_of : List Record → List Record
posts_of k = filter is_post k

-- What is kept of the accounts' passwords, by number.
abbrev pub joined_secret : Record → Option Secret
joined_secret (Join moment name secret) = Some secret
joined_secret _ = None

abbrev pub secrets_of : List Record → List Secret
secrets_of k = filter_map joined_secret k

-- The accounts, seeds, certificates and the table; the posts; what is kept of passwords, by account; and who is logged in.
pub record Site : Type 0 where
  pub certs : Book
  pub posts : List Record
  pub secrets : List Secret
  pub live : List Session

-- The site that records and live sessions make, where it began with this table.
abbrev pub site_with : Table → List Record → List Session → Site
site_with opening k sessions = record { certs = book_of opening (changes k); posts = posts_of k; secrets = secrets_of k; live = sessions }

abbrev pub site_of : History → Site
site_of h = site_with h.opening (records h) (live h)

abbrev pub secret_at : Site → ℕ → Secret
secret_at s account = slice_index_or s.secrets account Absent
