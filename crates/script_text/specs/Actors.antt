-- The actors of a script, by name and by number.
use Rattle.std.specs.Prelude.{ℕ, ◌+◌, List, [], ◌∷◌, ◌++◌, Option, Some, None, Result, Ok, length, nat_lt}
use Rattle.trust_types.specs.NameLists.{number_of}
use Rattle.text_lines.specs.declared.faults.TextKind.{TextKind}
use Rattle.text_lines.specs.declared.faults.TextKind.TheVariants.{TooMany}
use Rattle.text_lines.specs.Places.{name_in}
use Rattle.text_lines.specs.Steps.{◌>>=◌, fault_unless}

-- An actor that was named before has its number, and a new one has the next. A script has at most 64.
abbrev pub numbered_by : Option ℕ → List (List ℕ) → List ℕ → Result (ℕ × List (List ℕ)) TextKind
numbered_by (Some place) actors name = Ok (place + 1, actors)
numbered_by None actors name = do
  _ ← fault_unless (nat_lt (length actors) 64) TooMany
  Ok (length actors + 1, actors ++ name ∷ [])

-- An actor's number, counted from 1 in the order of first use, and the names of the actors from then on.
abbrev pub numbered : List (List ℕ) → List ℕ → Result (ℕ × List (List ℕ)) TextKind
numbered actors name = numbered_by (number_of actors name) actors name

-- The same of the actor that stands in an actor's place.
abbrev pub actor_in : List (List ℕ) → List ℕ → Result (ℕ × List (List ℕ)) TextKind
actor_in actors word = do
  name ← name_in word
  numbered actors name
