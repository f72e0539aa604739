-- What a script stands for; and of every other text the first line that has a fault.
use Rattle.std.specs.Prelude.{ℕ, ◌+◌, ◌≡◌, List, [], ◌∷◌, ◌++◌, Result, Ok, Err}
use Rattle.std.specs.Option.{ok_or}
use Rattle.trust_types.specs.Tables.{Table}
use Rattle.text_lines.specs.declared.faults.TextKind.{TextKind}
use Rattle.text_lines.specs.declared.faults.TextKind.TheVariants.{BadLine}
use Rattle.text_lines.specs.declared.faults.TextFault.{TextFault}
use Rattle.text_lines.specs.Words.{lines}
use Rattle.text_lines.specs.Reading.{reading}
use Rattle.text_lines.specs.Steps.{◌>>=◌}
use Rattle.site_text.specs.Site.{table_of, head_count, behind_head}
use Rattle.script_text.specs.declared.lines.ScriptLine.{ScriptLine}
use Rattle.script_text.specs.declared.lines.SiteScript.{SiteScript}
use Rattle.script_text.specs.Keywords.{keyword_of}
use Rattle.script_text.specs.Lines.{Said, said_by}
use Rattle.script_text.specs.Places.{line_words}

-- A script: the table of its head, and what its further lines ask for.
pub record ScriptText : Type 0 where
  pub table : Table
  pub lines : List ScriptLine

-- What some lines of a script stand for: the names of their actors in the order of first use, and what they ask for.
pub record Lines : Type 0 where
  pub actors : List (List ℕ)
  pub asked : List ScriptLine

abbrev pub no_lines : Lines
no_lines = record { actors = []; asked = [] }

-- What a line of these words says, where these actors were named before.
abbrev pub said : List (List ℕ) → List (List ℕ) → Result Said TextKind
said actors [] = Err BadLine
said actors (word ∷ words) = do
  keyword ← ok_or (keyword_of word) BadLine
  said_by keyword actors words

-- What the lines stand for after one more; or the line's fault.
unfoldable pub script_line : Lines → List ℕ → Result Lines TextKind
script_line before line = do
  words ← line_words line
  more ← said before.actors words
  Ok (record { actors = more.1; asked = before.asked ++ more.0 ∷ [] })

-- The script of these lines: the head, which is that of a site's text, and then the script's lines.
unfoldable pub script_of : List (List ℕ) → Result ScriptText TextFault
script_of lines = do
  table ← table_of lines
  all ← reading script_line (head_count lines + 1) no_lines (behind_head lines)
  Ok (record { table = table; lines = all.asked })

-- The script of a text's bytes.
abbrev pub script : List ℕ → Result ScriptText TextFault
script bytes = script_of (lines bytes)

-- A script that was read is just the one that a text stands for.
pub record IsScriptOf (said : ScriptText) (script : SiteScript) : Type 0 where
  pub table : script.caps ≡ said.table
  pub lines : script.lines.items ≡ said.lines
