-- What a list of kept records says of a site. The metric reads it through the changes of the graph that the records make.
use Rattle.std.specs.Prelude.{ℕ, zero, suc, Bool, true, false, List, [], ◌∷◌, ◌++◌, Option, Some, None, ◌≡◌, ◌≢◌, ◌<◌, ◌≤◌, length, filter_map, count_by, Contains}
use Rattle.trust_types.specs.declared.levels.Level.{Level}
use Rattle.trust_types.specs.declared.graphs.Cert.{Cert as Certificate}
use Rattle.trust_types.specs.declared.limits.TheConstants.{MOST_ACCOUNTS, MOST_CERTS, LONGEST_TEXT, LAST_MOMENT}
use Rattle.trust_types.specs.declared.records.Record.{Record}
use Rattle.trust_types.specs.declared.records.Record.TheVariants.{Join, Seed, Unseed, Cert, Table, Diary, Article, Reply, Project}
use Rattle.trust_types.specs.Tables as tables
use Rattle.trust_types.specs.Tables.{has_level}
use Rattle.trust_types.specs.Graph.{Certificates}
use Rattle.trust_types.specs.Changes.{Change, Joined, Seeded, Unseeded, Certified, Tabled, names, seed_among, table_among, certs_among, standing_among, standing_count, changed_certificates}

-- What a record changes in the graph or in the table. A post changes nothing there.
abbrev pub change_of : Record → Option Change
change_of (Join moment name secret) = Some (Joined name)
change_of (Seed moment subject) = Some (Seeded subject)
change_of (Unseed moment subject) = Some (Unseeded subject)
change_of (Cert moment author subject level) = Some (Certified (record { from = author; to = subject; level = level }))
change_of (Table moment caps) = Some (Tabled caps)
change_of (Diary moment author text) = None
change_of (Article moment author title text) = None
change_of (Reply moment author article text) = None
change_of (Project moment author name text) = None

abbrev pub changes : List Record → List Change
changes k = filter_map change_of k

-- The accounts' names in order. An account's number is its place.
abbrev pub accounts : List Record → List (List ℕ)
accounts k = names (changes k)

-- Whether the last record of an account that made it a seed, or one no more, made it one.
abbrev pub is_seed : List Record → ℕ → Bool
is_seed k a = seed_among (changes k) a

-- The table in force, where a site began with this one.
abbrev pub table_in_force : tables.Table → List Record → tables.Table
table_in_force opening k = table_among opening (changes k)

abbrev pub certs_of : List Record → List Certificate
certs_of k = certs_among (changes k)

-- The level at which one account stands certified by another: that of the last certificate, or Observer.
abbrev pub standing : List Record → ℕ → ℕ → Level
standing k a b = standing_among (certs_of k) a b

-- What the metric reads of the records.
abbrev pub kept_certificates : List Record → Certificates
kept_certificates k = changed_certificates (changes k)

-- The number of the revision: how many records changed the graph or the table.
abbrev pub revision : List Record → ℕ
revision k = length (changes k)

-- How many changes are still to come, of one more than so many, after a record.
abbrev pub left_after : Option Change → ℕ → ℕ
left_after (Some change) r = r
left_after None r = suc r

-- The shortest prefix with so many changes.
abbrev pub upto : List Record → ℕ → List Record
upto [] r = []
upto (x ∷ k) zero = []
upto (x ∷ k) (suc r) = x ∷ upto k (left_after (change_of x) r)

abbrev pub IsAccount : List Record → ℕ → Type 0
IsAccount k a = a < length (accounts k)

abbrev pub is_article : Record → Bool
is_article (Article moment author title text) = true
is_article _ = false

-- The name of a project that a record opens.
abbrev pub project_of : Record → Option (List ℕ)
project_of (Project moment author name text) = Some name
project_of _ = None

-- The record may follow these records of a site that began with this table.
abbrev pub Continues : tables.Table → List Record → Record → Type 0
Continues opening k (Join moment name secret) = ¬ (Contains (accounts k) name)
Continues opening k (Seed moment subject) = IsAccount k subject × (is_seed k subject ≡ false)
Continues opening k (Unseed moment subject) =
    IsAccount k subject × (is_seed k subject ≡ true) × ((other : ℕ) × (other ≢ subject) × (is_seed k other ≡ true))
Continues opening k (Cert moment author subject level) =
    IsAccount k author × IsAccount k subject × (author ≢ subject) × (has_level (table_in_force opening k) level ≡ true)
    × (level ≢ standing k author subject)
Continues opening k (Table moment caps) = ((table_in_force opening k).levels ≤ caps.levels) × (caps ≢ table_in_force opening k)
Continues opening k (Diary moment author text) = IsAccount k author
Continues opening k (Article moment author title text) = IsAccount k author
Continues opening k (Reply moment author article text) = IsAccount k author × (article < count_by is_article k)
Continues opening k (Project moment author name text) = IsAccount k author × ¬ (Contains (filter_map project_of k) name)

-- A text is within its limit of bytes.
abbrev pub IsWithin : List ℕ → Type 0
IsWithin text = length text ≤ LONGEST_TEXT

-- The record passes no limit on accounts, standing certificates and texts.
abbrev pub Fits : List Record → Record → Type 0
Fits k (Join moment name secret) = length (accounts k) < MOST_ACCOUNTS
Fits k (Seed moment subject) = Unit {0}
Fits k (Unseed moment subject) = Unit {0}
Fits k (Cert moment author subject level) = standing_count (certs_of (k ++ Cert moment author subject level ∷ [])) ≤ MOST_CERTS
Fits k (Table moment caps) = Unit {0}
Fits k (Diary moment author text) = IsWithin text
Fits k (Article moment author title text) = IsWithin title × IsWithin text
Fits k (Reply moment author article text) = IsWithin text
Fits k (Project moment author name text) = IsWithin text

abbrev pub moment_of : Record → ℕ
moment_of (Join moment name secret) = moment
moment_of (Seed moment subject) = moment
moment_of (Unseed moment subject) = moment
moment_of (Cert moment author subject level) = moment
moment_of (Table moment caps) = moment
moment_of (Diary moment author text) = moment
moment_of (Article moment author title text) = moment
moment_of (Reply moment author article text) = moment
moment_of (Project moment author name text) = moment

abbrev pub IsMoment : ℕ → Type 0
IsMoment moment = moment ≤ LAST_MOMENT

-- Each record continues those before it, fits them and has a moment within the limits.
abbrev pub IsWellKept : tables.Table → List Record → Type 0
IsWellKept opening k = (before : List Record) (x : Record) (after : List Record) → k ≡ before ++ x ∷ after →
    Continues opening before x × Fits before x × IsMoment (moment_of x)

-- A graph, by what the metric reads of it, is that of the records. Past the accounts nothing is read.
pub record IsGraph (k : List Record) (g : Certificates) : Type 0 where
  pub accounts : g.accounts ≡ length (accounts k)
  pub seeds : (a : ℕ) → a < g.accounts → g.is_seed a ≡ is_seed k a
  pub standing : (a b : ℕ) → a < g.accounts → b < g.accounts → g.standing a b ≡ standing k a b
