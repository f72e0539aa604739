-- The words that the program takes.
use Rattle.std.specs.Prelude.{ℕ, List, [], ◌∷◌, Option, Some, None, option_map, codes, if◌then◌else◌}
use Rattle.std.specs.Str.{bytes_eq}
use Rattle.trust_types.specs.declared.levels.Level.{Level}
use Rattle.trust_types.specs.Levels.{level_of, is_grade, IsGrade}
use Rattle.commands.specs.declared.command.Command.{Command}
use Rattle.commands.specs.declared.command.Command.TheVariants.{Check, Rosters, Audit}
use Rattle.commands.specs.declared.command.Asked.{Asked}
use Rattle.commands.specs.declared.command.Asked.TheVariants.{One, All}

-- The level, where it is a grade.
abbrev pub grade_among : Option Level → Option Level
grade_among None = None
grade_among (Some level) = if is_grade level then Some level else None

-- The grade that a word spells.
abbrev pub grade_of : List ℕ → Option Level
grade_of word = grade_among (level_of word)

-- The grades that a word asks for.
abbrev pub asked_of : List ℕ → Option Asked
asked_of word = if bytes_eq word (codes "all") then Some All else option_map One (grade_of word)

-- The command that the words are.
abbrev pub command_of : List (List ℕ) → Option Command
command_of (word ∷ []) = if bytes_eq word (codes "check") then Some Check else None
command_of (word ∷ level ∷ []) =
    if bytes_eq word (codes "rosters") then option_map Rosters (asked_of level) else
    if bytes_eq word (codes "audit") then option_map Audit (grade_of level) else None
command_of _ = None

-- The most bytes of input that a command takes: 256 MiB of a proof, 64 MiB of a site.
abbrev pub limit_of : Command → ℕ
limit_of Check = 268435456
limit_of (Rosters asked) = 67108864
limit_of (Audit level) = 67108864

-- Only grades are asked for.
abbrev pub AreGrades : Asked → Type 0
AreGrades (One level) = IsGrade level
AreGrades All = Unit {0}

abbrev pub AsksGrades : Command → Type 0
AsksGrades Check = Unit {0}
AsksGrades (Rosters asked) = AreGrades asked
AsksGrades (Audit level) = IsGrade level
