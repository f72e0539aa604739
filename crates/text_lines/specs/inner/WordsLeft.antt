-- For the reader of words alone: what is left of a line.
use Rattle.std.specs.Prelude.{ℕ, List, [], Option, Some, None}
use Rattle.text_lines.specs.Words.{words}

-- The words of what is left.
abbrev pub words_left : Option (List ℕ) → List (List ℕ)
words_left None = []
words_left (Some rest) = words rest
