-- What a script says, by the parts of it that are read one after another.
use Rattle.std.proofs.Common.{ℕ, ◌+◌, List, Result, Ok}
use Rattle.trust_types.specs.Tables.{Table}
use Rattle.text_lines.specs.declared.faults.TextFault.{TextFault}
use Rattle.text_lines.specs.Reading.{reading}
use Rattle.text_lines.specs.Steps.{◌>>=◌}
use Rattle.site_text.specs.Site.{head_count, behind_head}
use Rattle.script_text.specs.Scripts.{ScriptText, Lines, script_line, no_lines}

-- Behind the table: what the lines ask for.
abbrev pub with_lines : Table → Lines → Result ScriptText TextFault
with_lines table all = Ok (record { table = table; lines = all.asked })

abbrev pub with_table : List (List ℕ) → Table → Result ScriptText TextFault
with_table ls table = reading script_line (head_count ls + 1) no_lines (behind_head ls) >>= with_lines table
