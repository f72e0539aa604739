-- Words that are no command.
use Rattle.std.proofs.Common.{ℕ, ◌≡◌, ◌≤◌, List, [], ◌∷◌, None, length, refl, arith}
use Rattle.commands.specs.Commands.{command_of}

pub too_many : (words : List (List ℕ)) → 3 ≤ length words → None ≡ command_of words
too_many [] some = refl
too_many (a ∷ []) some = absurd (omega (arith, some))
too_many (a ∷ b ∷ []) some = absurd (omega (arith, some))
too_many (a ∷ b ∷ c ∷ others) some = refl
