-- An answer that takes memory.
use Rattle.std.specs.Prelude.{Result, Ok, Err}
use Rattle.commands.specs.declared.outcome.Answer.{Answer}
use Rattle.commands.specs.declared.outcome.Outcome.{Outcome}
use Rattle.commands.specs.declared.outcome.Outcome.TheVariants.{Answered, OutOfMemory}

-- The answer, or that memory ran out.
abbrev pub outcome_of : {E : Type 0} → Result Answer E → Outcome
outcome_of (Ok answer) = Answered answer
outcome_of (Err refusal) = OutOfMemory
