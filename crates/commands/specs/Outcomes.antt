-- What a run comes to before anything is written: a status, and the text to write.
use Rattle.std.specs.Prelude.{ℕ, List, [], codes, Result, Ok, Err}
use Rattle.commands.specs.declared.status.Status.{Status}
use Rattle.commands.specs.declared.status.Status.TheVariants.{Done, No, Usage, Text, InputFull, ReadFault, WriteFault, KeeperFault, BadRow, NoMemory, PortFault, RowsFull}
use Rattle.commands.specs.declared.outcome.Outcome.{Outcome}
use Rattle.commands.specs.declared.outcome.Outcome.TheVariants as run

abbrev pub usage_line : List ℕ
usage_line = codes "usage: virgule check | rosters LEVEL | audit LEVEL | script [--db FILE] | drill N\n"

abbrev pub status_of : Outcome → Status
status_of (run.Answered answer) = answer.status
status_of run.Misused = Usage
status_of run.TooLong = InputFull
status_of run.Unread = ReadFault
status_of run.OutOfMemory = NoMemory

abbrev pub text_of : Outcome → List ℕ
text_of (run.Answered answer) = answer.text.items
text_of run.Misused = usage_line
text_of run.TooLong = codes "input too long\n"
text_of run.Unread = codes "read fault\n"
text_of run.OutOfMemory = []

-- The number by which a status is known outside.
abbrev pub code_of : Status → ℕ
code_of Done = 0
code_of No = 1
code_of Usage = 2
code_of Text = 3
code_of InputFull = 4
code_of ReadFault = 5
code_of WriteFault = 6
code_of KeeperFault = 7
code_of BadRow = 8
code_of NoMemory = 9
code_of PortFault = 10
code_of RowsFull = 11

-- The number with which the process ends; where the run couldn't start, memory ran out.
abbrev pub code_after : {E : Type 0} → Result Status E → ℕ
code_after (Ok status) = code_of status
code_after (Err refusal) = code_of NoMemory
