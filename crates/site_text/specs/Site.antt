-- What a site text and a proof text stand for; and of every other text the first line that has a fault.
use Rattle.std.specs.Prelude.{ℕ, Bool, false, ◌+◌, if◌then◌else◌, List, [], ◌∷◌, Result, Ok, Err, length, drop}
use Rattle.std.specs.List.{before_first, position_or_len}
use Rattle.trust_types.specs.declared.levels.Level.{Level}
use Rattle.trust_types.specs.declared.records.Record.{Record}
use Rattle.trust_types.specs.Tables.{Table, table_with}
use Rattle.trust_types.specs.Kept.{accounts}
use Rattle.text_lines.specs.declared.faults.TextKind.{TextKind}
use Rattle.text_lines.specs.declared.faults.TextKind.TheVariants.{BadLine, MissingLevel, MissingRoot}
use Rattle.text_lines.specs.declared.faults.TextFault.{TextFault}
use Rattle.text_lines.specs.Words.{lines}
use Rattle.text_lines.specs.Reading.{reading}
use Rattle.text_lines.specs.Steps.{◌>>=◌, fault_unless, at_line}
use Rattle.site_lines.specs.Site.{caps_line, levels_line, is_levels_line, site_line}
use Rattle.claim_lines.specs.Claim.{Claim, nothing, is_level_line, level_line, claim_line, has_root}

-- A site: its capacity table, and the records that its lines stand for.
pub record SiteText : Type 0 where
  pub table : Table
  pub records : List Record

-- A site, with a level, a flow and a cut that are claimed of it.
pub record ProofText : Type 0 where
  pub site : SiteText
  pub level : Level
  pub claim : Claim

abbrev pub fault : ℕ → TextKind → TextFault
fault number kind = record { line = number; kind = kind }

-- Whether the lines behind a text's first begin with one that says how many levels there are.
abbrev pub begin_with_levels : List (List ℕ) → Bool
begin_with_levels [] = false
begin_with_levels (second ∷ others) = is_levels_line second

-- Whether the second line says how many levels there are.
abbrev pub has_levels_line : List (List ℕ) → Bool
has_levels_line [] = false
has_levels_line (first ∷ behind) = begin_with_levels behind

-- The entries of the first line.
abbrev pub entries_of : List (List ℕ) → Result (List ℕ) TextFault
entries_of [] = Err (fault 1 BadLine)
entries_of (first ∷ others) = at_line 1 (caps_line first)

-- The number of levels by the lines behind the first.
abbrev pub levels_behind : List (List ℕ) → Result ℕ TextFault
levels_behind [] = Ok 4
levels_behind (second ∷ others) = if is_levels_line second then at_line 2 (levels_line second) else Ok 4

-- The number of levels: that of the second line, where it says one, else four.
abbrev pub levels_of : List (List ℕ) → Result ℕ TextFault
levels_of [] = Ok 4
levels_of (first ∷ behind) = levels_behind behind

-- The table of a text's head. A fault of its first line comes before one of its second.
unfoldable pub table_of : List (List ℕ) → Result Table TextFault
table_of lines = do
  entries ← entries_of lines
  levels ← levels_of lines
  Ok (table_with levels entries)

-- How many lines the head has.
abbrev pub head_count : List (List ℕ) → ℕ
head_count lines = if has_levels_line lines then 2 else 1

-- The lines behind the head.
abbrev pub behind_head : List (List ℕ) → List (List ℕ)
behind_head lines = drop (head_count lines) lines

-- The site of these lines: the table, and then the site's lines.
unfoldable pub site_of : List (List ℕ) → Result SiteText TextFault
site_of lines = do
  table ← table_of lines
  records ← reading (site_line table) (head_count lines + 1) [] (behind_head lines)
  Ok (record { table = table; records = records })

-- The site of a text's bytes.
abbrev pub site : List ℕ → Result SiteText TextFault
site bytes = site_of (lines bytes)

-- The lines before the first `level` line are the site's.
abbrev pub site_part : List (List ℕ) → List (List ℕ)
site_part lines = before_first is_level_line lines

-- That line and those behind it are the claim's.
abbrev pub claim_part : List (List ℕ) → List (List ℕ)
claim_part lines = drop (position_or_len is_level_line lines) lines

-- What is claimed by these lines, of which the first has that number, over a table and accounts of these names.
unfoldable pub claim_of : Table → List (List ℕ) → ℕ → List (List ℕ) → Result (Level × Claim) TextFault
claim_of table names number [] = Err (fault number MissingLevel)
claim_of table names number (first ∷ others) = do
  level ← at_line number (level_line table first)
  claim ← reading (claim_line names) (number + 1) nothing others
  _ ← at_line (number + 1 + length others) (fault_unless (has_root claim) MissingRoot)
  Ok (level, claim)

-- The proof of these lines: the table, the site's lines, and behind them a claim.
unfoldable pub proof_of : List (List ℕ) → Result ProofText TextFault
proof_of lines = do
  table ← table_of lines
  records ← reading (site_line table) (head_count lines + 1) [] (site_part (behind_head lines))
  claimed ← claim_of table (accounts records) (head_count lines + 1 + length (site_part (behind_head lines))) (claim_part (behind_head lines))
  Ok (record { site = record { table = table; records = records }; level = claimed.0; claim = claimed.1 })

-- The proof of a text's bytes.
abbrev pub proof : List ℕ → Result ProofText TextFault
proof bytes = proof_of (lines bytes)
