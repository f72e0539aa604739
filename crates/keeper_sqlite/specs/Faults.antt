-- What a refused statement is for a keeper.
use Rattle.outside.specs.declared.keeper.KeepFault.{KeepFault}
use Rattle.outside.specs.declared.keeper.KeepFault.TheVariants.{Failed, NoMemory}
use Rattle.sqlite.specs.declared.error.Error.{Error}
use Rattle.sqlite.specs.declared.error.Error.TheVariants.{SqliteFailure}
use Rattle.sqlite.specs.declared.error.ErrorCode.{ErrorCode}
use Rattle.sqlite.specs.declared.error.ErrorCode.TheVariants.{OutOfMemory}

-- Where memory ran out the keeper answers so. Anything else is a fault, which it counts.
abbrev pub fault_of : Error → KeepFault
fault_of (SqliteFailure OutOfMemory) = NoMemory
fault_of _ = Failed
