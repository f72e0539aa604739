-- What the places of a line hold: how many words there are, and what each of them is.
use Rattle.std.specs.Prelude.{ℕ, List, [], ◌∷◌, Result, Ok, Err, if◌then◌else◌}
use Rattle.std.specs.Option.{ok_or}
use Rattle.trust_types.specs.declared.levels.Level.{Level}
use Rattle.trust_types.specs.Levels.{is_grade, level_of}
use Rattle.trust_types.specs.Names.{is_name}
use Rattle.trust_types.specs.Tables.{Table, has_level}
use Rattle.text_lines.specs.declared.faults.TextKind.{TextKind}
use Rattle.text_lines.specs.declared.faults.TextKind.TheVariants.{BadLine, BadLevel, BadName}
use Rattle.text_lines.specs.Steps.{◌>>=◌, fault_unless}

-- The line ends.
abbrev pub no_word : List (List ℕ) → Result (Unit {0}) TextKind
no_word [] = Ok tt
no_word words = Err BadLine

-- The word of a place behind which the line ends.
abbrev pub one_word : List (List ℕ) → Result (List ℕ) TextKind
one_word (word ∷ []) = Ok word
one_word words = Err BadLine

-- The words of three places behind which the line ends.
abbrev pub three_words : List (List ℕ) → Result (List ℕ × List ℕ × List ℕ) TextKind
three_words (first ∷ second ∷ third ∷ []) = Ok (first, second, third)
three_words words = Err BadLine

-- The name that stands in a name's place.
abbrev pub name_in : List ℕ → Result (List ℕ) TextKind
name_in word = if is_name word then Ok word else Err BadName

-- The level that stands in a level's place: one of the table's.
abbrev pub level_in : Table → List ℕ → Result Level TextKind
level_in table word = do
  level ← ok_or (level_of word) BadLevel
  _ ← fault_unless (has_level table level) BadLevel
  Ok level

-- The grade that stands in a grade's place: one of the table's.
abbrev pub grade_in : Table → List ℕ → Result Level TextKind
grade_in table word = do
  level ← level_in table word
  _ ← fault_unless (is_grade level) BadLevel
  Ok level
