-- The book of certificates of a site: what a list of changes comes to.
use Rattle.std.specs.Prelude.{ℕ, Bool, true, false, ◌≡◌, ◌≢◌, ◌<◌, ◌≤◌, ◌+◌, List, [], ◌∷◌, ◌++◌, Option, length, filter, map, Contains}
use Rattle.std.specs.List.{range_with_len}
use Rattle.trust_types.specs.declared.levels.Level.{Level}
use Rattle.trust_types.specs.declared.graphs.Cert.{Cert}
use Rattle.trust_types.specs.declared.limits.TheConstants.{MOST_ACCOUNTS, MOST_CERTS}
use Rattle.trust_types.specs.declared.records.Record.{Record}
use Rattle.trust_types.specs.Levels.{is_grade}
use Rattle.trust_types.specs.Tables.{Table, has_level}
use Rattle.trust_types.specs.Changes.{Change, Joined, Seeded, Unseeded, Certified, Tabled, names, seed_among, table_among, certs_among, standing_among, standing_count}
use Rattle.trust_types.specs.Kept as kept
use Rattle.frozen.specs.Writes.{graded}
use Rattle.frozen.specs.Revision.{Revision, certificates}
use Rattle.frozen.specs.Sites.{certs}
use Rattle.cert_book.specs.declared.rooms.Room.{Room}

-- What a book says of a site.
pub record Book : Type 0 where
  -- the number of the revision: how many changes there were
  pub revision : ℕ
  -- the capacity table in force
  pub table : Table
  -- the accounts' names, by number
  pub names : List (List ℕ)
  pub is_seed : ℕ → Bool
  -- the level at which one account stands certified by another; Observer, where it isn't
  pub standing : ℕ → ℕ → Level
  -- how many certificates stand
  pub certs : ℕ

-- The book of these changes, of a site that began with this table.
abbrev pub book_of : Table → List Change → Book
book_of opening changes = record {
  revision = length changes;
  table = table_among opening changes;
  names = names changes;
  is_seed = seed_among changes;
  standing = standing_among (certs_among changes);
  certs = standing_count (certs_among changes);
}

-- One change more: whatever changes the old book is that of, the new one is that of these and this one.
abbrev pub Adds : Book → Book → Change → Type 0
Adds old new change = (opening : Table) (changes : List Change) → old ≡ book_of opening changes → new ≡ book_of opening (changes ++ change ∷ [])

-- What contracts see of a `CertBook`: the revision that it stands at, and for which addition there is room.
pub record Held : Type 0 where
  pub revision : Revision
  pub room : Option Room

-- What it says.
abbrev pub book : Held → Book
book held = record {
  revision = held.revision.number;
  table = held.revision.caps;
  names = held.revision.names;
  is_seed = (certificates held.revision).is_seed;
  standing = (certificates held.revision).standing;
  certs = certs held.revision.parts;
}

abbrev pub IsAccount : Book → ℕ → Type 0
IsAccount b a = a < length b.names

-- The accounts, by number.
abbrev pub accounts : Book → List ℕ
accounts b = range_with_len 0 (length b.names)

abbrev pub is_standing : Cert → Bool
is_standing cert = is_grade cert.level

-- The certificates that stand of an account for others, in rising order of taker.
abbrev pub given : Book → ℕ → List Cert
given b a = filter is_standing (map (λ c. record { from = a; to = c; level = b.standing a c }) (accounts b))

-- The certificates that stand of others for an account, in rising order of giver.
abbrev pub taken : Book → ℕ → List Cert
taken b c = filter is_standing (map (λ a. record { from = a; to = c; level = b.standing a c }) (accounts b))

-- The change may follow: it is of accounts that there are, and says something new that the book's rules allow.
abbrev pub Follows : Book → Change → Type 0
Follows b (Joined name) = ¬ (Contains b.names name)
Follows b (Seeded a) = IsAccount b a × (b.is_seed a ≡ false)
Follows b (Unseeded a) = IsAccount b a × (b.is_seed a ≡ true) × ((other : ℕ) × (other ≢ a) × (b.is_seed other ≡ true))
Follows b (Certified c) =
    IsAccount b c.from × IsAccount b c.to × (c.from ≢ c.to) × (has_level b.table c.level ≡ true) × (c.level ≢ b.standing c.from c.to)
Follows b (Tabled table) = (b.table.levels ≤ table.levels) × (table ≢ b.table)

-- With the change no limit on accounts and on standing certificates is passed.
abbrev pub HasPlace : Book → Change → Type 0
HasPlace b (Joined name) = length b.names < MOST_ACCOUNTS
HasPlace b (Seeded a) = Unit {0}
HasPlace b (Unseeded a) = Unit {0}
HasPlace b (Certified c) = b.certs + graded c.level ≤ MOST_CERTS + graded (b.standing c.from c.to)
HasPlace b (Tabled table) = Unit {0}

-- A frozen graph is that of kept records, with their names, the number of their revision and the table in force.
pub record Freezes (opening : Table) (k : List Record) (r : Revision) : Type 0 where
  pub graph : kept.IsGraph k (certificates r)
  pub names : r.names ≡ kept.accounts k
  pub number : r.number ≡ kept.revision k
  pub table : r.caps ≡ kept.table_in_force opening k
