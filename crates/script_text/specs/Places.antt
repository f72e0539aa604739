-- What the places of a script's line hold. Its words are judged by the site alone: any may stand for a name.
use Rattle.std.specs.Prelude.{ℕ, List, [], ◌∷◌, Option, Some, None, Result, Ok, Err, ◌&&◌, nat_le, if◌then◌else◌}
use Rattle.std.specs.Option.{ok_or}
use Rattle.std.specs.Str.{is_utf8}
use Rattle.std.specs.Str.Parse.{digits_value}
use Rattle.hex.specs.Hex.{decode_sized}
use Rattle.percent_encoding.specs.Percent.{percent_decode}
use Rattle.trust_types.specs.declared.levels.Level.{Level}
use Rattle.trust_types.specs.declared.limits.TheConstants.{LAST_MOMENT}
use Rattle.trust_types.specs.Levels.{is_grade, level_of}
use Rattle.text_lines.specs.declared.faults.TextKind.{TextKind}
use Rattle.text_lines.specs.declared.faults.TextKind.TheVariants.{BadLine, BadNumber, BadLevel, BadText}
use Rattle.text_lines.specs.Words.{words, is_line}
use Rattle.text_lines.specs.Numbers.{number, is_numeral}
use Rattle.text_lines.specs.Steps.{◌>>=◌, fault_unless}

-- The words of a line: one or more with one space between them.
abbrev pub line_words : List ℕ → Result (List (List ℕ)) TextKind
line_words line = if is_line line then Ok (words line) else Err BadLine

-- The words of two places behind which the line ends.
abbrev pub two_words : List (List ℕ) → Result (List ℕ × List ℕ) TextKind
two_words (first ∷ second ∷ []) = Ok (first, second)
two_words words = Err BadLine

-- The word of one place, and that of a second where there is one, behind which the line ends.
abbrev pub one_or_two : List (List ℕ) → Result (List ℕ × Option (List ℕ)) TextKind
one_or_two (first ∷ []) = Ok (first, None)
one_or_two (first ∷ second ∷ []) = Ok (first, Some second)
one_or_two words = Err BadLine

-- The number that stands in a number's place.
abbrev pub number_in : List ℕ → Result ℕ TextKind
number_in word = ok_or (number word) BadNumber

-- The moment that a word of 1 to 12 digits writes, at most the last second of the year 9999.
unfoldable pub moment : List ℕ → Option ℕ
moment word = if is_numeral 12 word && nat_le (digits_value 10 word) LAST_MOMENT then Some (digits_value 10 word) else None

-- The moment that stands in a moment's place.
abbrev pub moment_in : List ℕ → Result ℕ TextKind
moment_in word = ok_or (moment word) BadNumber

-- The level that stands in a level's place: any of the seven, since the table in force is the site's to look at.
abbrev pub any_level : List ℕ → Result Level TextKind
any_level word = ok_or (level_of word) BadLevel

-- The grade that stands in a grade's place: any but Observer.
abbrev pub any_grade : List ℕ → Result Level TextKind
any_grade word = do
  level ← any_level word
  _ ← fault_unless (is_grade level) BadLevel
  Ok level

-- The text that a word stands for in a text's place: what it is percent-decoded to (URL Standard, section 1.3), which is UTF-8.
abbrev pub text_in : List ℕ → Result (List ℕ) TextKind
text_in word = if is_utf8 (percent_decode word) then Ok (percent_decode word) else Err BadText

-- The token that stands in its place as 32 hexadecimal digits, of either case.
abbrev pub token_in : List ℕ → Result (List ℕ) TextKind
token_in word = elim (decode_sized word 16) [ Ok token ↦ Ok token | Err fault ↦ Err BadText ]
