-- Faults of texts: what they are called, and the line that they are printed as.
use Rattle.std.specs.Prelude.{ℕ, List, ◌++◌, codes, decimal}
use Rattle.trust_types.specs.declared.tables.CapsFault.{CapsFault}
use Rattle.trust_types.specs.declared.tables.CapsFault.TheVariants as table
use Rattle.text_lines.specs.declared.faults.TextKind.{TextKind}
use Rattle.text_lines.specs.declared.faults.TextKind.TheVariants.{BadLine, BadNumber, BadCount, Empty, Long, Zero, Large, Rises, EndNotOne, BadLevel, BadName, BadText, Unknown, SelfCert, Twice, TooMany, MissingLevel, MissingRoot}
use Rattle.text_lines.specs.declared.faults.TextFault.{TextFault}

abbrev pub kind_name : TextKind → List ℕ
kind_name BadLine = codes "BadLine"
kind_name BadNumber = codes "BadNumber"
kind_name BadCount = codes "BadCount"
kind_name Empty = codes "Empty"
kind_name Long = codes "Long"
kind_name Zero = codes "Zero"
kind_name Large = codes "Large"
kind_name Rises = codes "Rises"
kind_name EndNotOne = codes "EndNotOne"
kind_name BadLevel = codes "BadLevel"
kind_name BadName = codes "BadName"
kind_name BadText = codes "BadText"
kind_name Unknown = codes "Unknown"
kind_name SelfCert = codes "SelfCert"
kind_name Twice = codes "Twice"
kind_name TooMany = codes "TooMany"
kind_name MissingLevel = codes "MissingLevel"
kind_name MissingRoot = codes "MissingRoot"

-- A line ends with LF.
abbrev pub fault_line : TextFault → List ℕ
fault_line fault = codes "fault line " ++ decimal fault.line ++ codes " " ++ kind_name fault.kind ++ codes "\n"

-- The kind of a table's fault, which has the same name but for the number of levels.
abbrev pub kind_of_table : CapsFault → TextKind
kind_of_table table.Levels = BadCount
kind_of_table table.Empty = Empty
kind_of_table table.Long = Long
kind_of_table table.Zero = Zero
kind_of_table table.Large = Large
kind_of_table table.Rises = Rises
kind_of_table table.EndNotOne = EndNotOne
