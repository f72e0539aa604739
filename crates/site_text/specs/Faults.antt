-- Why a text gave nothing.
use Rattle.std.specs.Prelude.{Option, Some, None}
use Rattle.text_lines.specs.declared.faults.TextFault.{TextFault}
use Rattle.site_text.specs.declared.faults.SiteFault.{SiteFault}
use Rattle.site_text.specs.declared.faults.SiteFault.TheVariants.{Text, NoMemory}

-- The text's fault; none where memory ran out.
abbrev pub fault_of : SiteFault → Option TextFault
fault_of (Text fault) = Some fault
fault_of NoMemory = None
