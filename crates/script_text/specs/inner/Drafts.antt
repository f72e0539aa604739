-- For the reader's own functions: a script while its lines are read.
use Rattle.std.specs.Prelude.{◌≡◌}
use Rattle.std.specs.Global.{Vec}
use Rattle.script_text.specs.declared.lines.ScriptLine.{ScriptLine}
use Rattle.script_text.specs.declared.reading.ScriptDraft.{ScriptDraft}
use Rattle.script_text.specs.Scripts.{Lines}

-- What the lines read so far stand for.
abbrev pub lines_of : ScriptDraft → Lines
lines_of draft = record { actors = draft.actors; asked = draft.asked.items }

abbrev pub IsDraftOf : ScriptDraft → Lines → Type 0
IsDraftOf draft said = lines_of draft ≡ said

-- They are what these lines ask for.
abbrev pub AreAsked : Vec ScriptLine → Lines → Type 0
AreAsked asked said = asked.items ≡ said.asked
