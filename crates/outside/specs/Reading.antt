-- Which end of a reading loop was a fault of the source.
use Rattle.std.specs.Prelude.{Bool, true, false, Result, Ok, Err}
use Rattle.outside.specs.declared.reading.InputFault.{InputFault}
use Rattle.outside.specs.declared.reading.InputFault.TheVariants.{TooLong, Failed, NoMemory}

-- a read failed
abbrev pub is_failed : {T : Type 0} → Result T InputFault → Bool
is_failed (Ok x) = false
is_failed (Err TooLong) = false
is_failed (Err Failed) = true
is_failed (Err NoMemory) = false
