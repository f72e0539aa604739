-- Why a text gave no script.
use Rattle.std.specs.Prelude.{Option, Some, None}
use Rattle.text_lines.specs.declared.faults.TextFault.{TextFault}
use Rattle.script_text.specs.declared.faults.ScriptFault.{ScriptFault}
use Rattle.script_text.specs.declared.faults.ScriptFault.TheVariants.{Text, NoMemory}

-- The text's fault; none where memory ran out.
abbrev pub fault_of : ScriptFault → Option TextFault
fault_of (Text fault) = Some fault
fault_of NoMemory = None
