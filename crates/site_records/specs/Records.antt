-- What the parts of a record are.
use Rattle.std.specs.Prelude.{ℕ, ◌≡◌, ◌<◌, ◌^◌, length, IsUtf8}
use Rattle.hex.specs.Hex.{IsBytes}
use Rattle.trust_types.specs.declared.records.Record.{Record}
use Rattle.trust_types.specs.declared.records.Record.TheVariants.{Join, Seed, Unseed, Cert, Table, Diary, Article, Reply, Project}
use Rattle.trust_types.specs.declared.records.Secret.{Secret}
use Rattle.trust_types.specs.declared.records.Secret.TheVariants.{Absent, Digest}
use Rattle.trust_types.specs.Kept.{IsMoment}
use Rattle.trust_types.specs.Names.{IsName}
use Rattle.trust_types.specs.Tables.{IsTable}

-- The number of an account or of an article.
abbrev pub IsNumber : ℕ → Type 0
IsNumber n = n < 2 ^ 32

abbrev pub IsSecret : Secret → Type 0
IsSecret Absent = Unit {0}
IsSecret (Digest digest) = (length digest ≡ 32) × IsBytes digest

-- Each part is one of its kind: the moment is within the limits, numbers are below 2^32, names are names, tables are tables, and texts are
-- UTF-8.
abbrev pub IsRecord : Record → Type 0
IsRecord (Join moment name secret) = IsMoment moment × IsName name × IsSecret secret
IsRecord (Seed moment subject) = IsMoment moment × IsNumber subject
IsRecord (Unseed moment subject) = IsMoment moment × IsNumber subject
IsRecord (Cert moment author subject level) = IsMoment moment × IsNumber author × IsNumber subject
IsRecord (Table moment caps) = IsMoment moment × IsTable caps
IsRecord (Diary moment author text) = IsMoment moment × IsNumber author × IsUtf8 text
IsRecord (Article moment author title text) = IsMoment moment × IsNumber author × IsUtf8 title × IsUtf8 text
IsRecord (Reply moment author article text) = IsMoment moment × IsNumber author × IsNumber article × IsUtf8 text
IsRecord (Project moment author name text) = IsMoment moment × IsNumber author × IsName name × IsUtf8 text
