-- What a server is asked to do, by its words.
use Rattle.std.specs.Prelude.{ℕ, Bool, List, [], ◌∷◌, Option, Some, None, Result, Ok, Err, codes, length, ◌==◌, if◌then◌else◌}
use Rattle.std.specs.List.{slice_split}
use Rattle.std.specs.Str.{bytes_eq}
use Rattle.std.specs.Str.Parse.{digits_value, without_leading_plus}
use Rattle.clap.specs.Words.{Row, first_of, one_of}
use Rattle.clap.specs.ValueTests.{is_unsigned_in}
use Rattle.text_lines.specs.Numbers.{number}
use Rattle.trust_types.specs.Tables.{Table, judged_table, standard_table}
use Rattle.serve_words.specs.Options.{faults, rows}
use Rattle.serve_words.specs.declared.plan.ServePlan.{ServePlan}

-- What a plan says.
pub record Plan : Type 0 where
  pub listen : List ℕ
  pub db : Option (List ℕ)
  pub caps : Table
  pub links : ℕ
  pub workers : ℕ
  pub accept : ℕ

abbrev pub said : ServePlan → Plan
said plan = record {
  listen = plan.listen;
  db = plan.db;
  caps = plan.caps;
  links = plan.links;
  workers = plan.workers;
  accept = plan.accept;
}

infixl 10 ◌>>=◌
abbrev pub ◌>>=◌ : {A B : Type 0} → Option A → (A → Option B) → Option B
None >>= f = None
Some x >>= f = f x

-- A text that isn't empty.
abbrev pub filled : Option (List ℕ) → Option (List ℕ)
filled None = None
filled (Some text) = if bytes_eq text [] then None else Some text

-- One that isn't empty where there is one.
abbrev pub filled_or_none : Option (List ℕ) → Option (Option (List ℕ))
filled_or_none None = Some None
filled_or_none (Some text) = if bytes_eq text [] then None else Some (Some text)

-- The number that a text writes in decimal digits, behind a `+` or not, where it lies within these bounds.
abbrev pub number_in : ℕ → ℕ → List ℕ → Option ℕ
number_in least most text = if is_unsigned_in least most text then Some (digits_value 10 (without_leading_plus text)) else None

-- The same where there is a text.
abbrev pub number_within : ℕ → ℕ → Option (List ℕ) → Option ℕ
number_within least most text = text >>= number_in least most

-- A comma parts the entries of a table.
abbrev pub is_comma : ℕ → Bool
is_comma byte = byte == 44

-- The numbers that all of the parts write.
abbrev pub numbers : List (List ℕ) → Option (List ℕ)
numbers [] = Some []
numbers (part ∷ others) = do
  n ← number part
  ns ← numbers others
  Some (n ∷ ns)

abbrev pub entries_of : List ℕ → Option (List ℕ)
entries_of text = numbers (slice_split is_comma text)

abbrev pub accepted : {E : Type 0} → Result Table E → Option Table
accepted (Ok table) = Some table
accepted (Err fault) = None

-- The table of four levels with the entries that a text writes; the standard one where there is no text.
abbrev pub table_of : Option (List ℕ) → Option Table
table_of None = Some standard_table
table_of (Some text) = entries_of text >>= (λ entries. accepted (judged_table 4 entries))

-- The plan that these are, of which the texts are those of the options, and the numbers are there where they lie within their ranges.
abbrev pub plan_with : Option (List ℕ) → Option (List ℕ) → Option (List ℕ) → Option ℕ → Option ℕ → Option ℕ → Option Plan
plan_with listen db caps links workers accept = do
  listen ← filled listen
  db ← filled_or_none db
  caps ← table_of caps
  links ← links
  workers ← workers
  accept ← accept
  Some (record { listen = listen; db = db; caps = caps; links = links; workers = workers; accept = accept })

-- The plan that the options' values are.
abbrev pub plan_in : List Row → Option Plan
plan_in rows = plan_with (first_of (codes "listen") rows) (first_of (codes "db") rows) (first_of (codes "caps") rows)
    (number_within 1 48 (one_of (codes "links") rows)) (number_within 1 8 (one_of (codes "workers") rows))
    (number_within 0 4294967295 (one_of (codes "accept") rows))

-- The plan that the words behind `serve` give, where they parse.
abbrev pub plan_behind : List (List ℕ) → Option Plan
plan_behind words = if length (faults words) == 0 then plan_in (rows words) else None

-- The plan that the words of a command line give.
abbrev pub plan_of : List (List ℕ) → Option Plan
plan_of [] = None
plan_of (command ∷ words) = if bytes_eq command (codes "serve") then plan_behind words else None
