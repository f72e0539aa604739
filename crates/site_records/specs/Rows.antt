-- Rows: the text that form encoding gives to the pairs of a record. Version 2 is written. Rows of version 1 stay rows.
use Rattle.std.specs.Prelude.{ℕ, Bool, true, false, List, [], ◌∷◌, ◌≡◌, nat_lt, Option, Some, None, ◌⊎◌, map, codes, decimal, if◌then◌else◌}
use Rattle.std.specs.List.{join_with_byte}
use Rattle.form_urlencoded.specs.Form.{extend_pairs}
use Rattle.hex.specs.Hex.{encode_lower}
use Rattle.trust_types.specs.declared.records.Record.{Record}
use Rattle.trust_types.specs.declared.records.Record.TheVariants.{Join, Seed, Unseed, Cert, Table, Diary, Article, Reply, Project}
use Rattle.trust_types.specs.declared.records.Secret.{Secret}
use Rattle.trust_types.specs.declared.records.Secret.TheVariants.{Absent, Digest}
use Rattle.trust_types.specs.Levels.{rank, level_name}
use Rattle.site_records.specs.declared.versions.Version.{Version}
use Rattle.site_records.specs.declared.versions.Version.TheVariants.{One, Two}

-- A name and a value.
abbrev pub Pair : Type 0
Pair = List ℕ × List ℕ

-- Nothing, or the 64 digits of the digest, in lower case.
abbrev pub secret_text : Secret → List ℕ
secret_text Absent = []
secret_text (Digest digest) = encode_lower digest

-- The entries of a table, with single spaces between them.
abbrev pub entries_text : List ℕ → List ℕ
entries_text entries = join_with_byte 32 (map decimal entries)

-- The kind and the moment, and then a record's own pairs.
abbrev pub of_kind : List ℕ → ℕ → List Pair → List Pair
of_kind kind moment own = (codes "k", kind) ∷ (codes "m", decimal moment) ∷ own

abbrev pub pairs : Record → List Pair
pairs (Join moment name secret) = of_kind (codes "join") moment ((codes "n", name) ∷ (codes "s", secret_text secret) ∷ [])
pairs (Seed moment subject) = of_kind (codes "seed") moment ((codes "a", decimal subject) ∷ [])
pairs (Unseed moment subject) = of_kind (codes "unseed") moment ((codes "a", decimal subject) ∷ [])
pairs (Cert moment author subject level) = of_kind (codes "cert") moment ((codes "a", decimal author) ∷ (codes "b", decimal subject) ∷ (codes "l", level_name level) ∷ [])
pairs (Table moment caps) = of_kind (codes "table") moment ((codes "g", decimal caps.levels) ∷ (codes "c", entries_text caps.entries) ∷ [])
pairs (Diary moment author text) = of_kind (codes "diary") moment ((codes "a", decimal author) ∷ (codes "t", text) ∷ [])
pairs (Article moment author title text) = of_kind (codes "article") moment ((codes "a", decimal author) ∷ (codes "h", title) ∷ (codes "t", text) ∷ [])
pairs (Reply moment author article text) = of_kind (codes "reply") moment ((codes "a", decimal author) ∷ (codes "i", decimal article) ∷ (codes "t", text) ∷ [])
pairs (Project moment author name text) = of_kind (codes "project") moment ((codes "a", decimal author) ∷ (codes "n", name) ∷ (codes "t", text) ∷ [])

abbrev pub version_name : Version → List ℕ
version_name One = codes "1"
version_name Two = codes "2"

-- The version, and then the record's pairs, as a form has them.
abbrev pub row_in : Version → Record → List ℕ
row_in version x = extend_pairs [] ((codes "v", version_name version) ∷ pairs x)

-- The row that is written.
abbrev pub row : Record → List ℕ
row x = row_in Two x

-- Whether version 1 had the record: it had the levels up to Master, and no record that withdraws a seed or changes the table.
abbrev pub is_old : Record → Bool
is_old (Join moment name secret) = true
is_old (Seed moment subject) = true
is_old (Unseed moment subject) = false
is_old (Cert moment author subject level) = nat_lt (rank level) 4
is_old (Table moment caps) = false
is_old (Diary moment author text) = true
is_old (Article moment author title text) = true
is_old (Reply moment author article text) = true
is_old (Project moment author name text) = true

-- The row of version 1, of a record that it had.
abbrev pub old_row : Record → Option (List ℕ)
old_row x = if is_old x then Some (row_in One x) else None

-- A row of the record, of either version.
abbrev pub IsRowOf : Record → List ℕ → Type 0
IsRowOf x bytes = (bytes ≡ row x) ⊎ (old_row x ≡ Some bytes)
