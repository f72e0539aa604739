-- What a gate says, and what it was asked.
use Rattle.std.specs.Prelude.{Bool, true, false, List, [], ◌∷◌, ◌++◌, Option, option_map}
use Rattle.workers.specs.declared.gate.Go.{Go}
use Rattle.workers.specs.declared.gate.Go.TheVariants.{On, Stop}
use Rattle.workers.specs.declared.gate.RoundStep.{RoundStep}

abbrev pub is_stop : Go → Bool
is_stop On = false
is_stop Stop = true

-- The steps that were asked for, and one more, where they are told.
abbrev pub one_asked : Option (List RoundStep) → RoundStep → Option (List RoundStep)
one_asked asked step = option_map (λ steps. steps ++ step ∷ []) asked
