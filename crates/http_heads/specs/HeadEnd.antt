-- Where the head of a request ends, and which heads are too long.
use Rattle.std.specs.Prelude.{ℕ, Bool, false, ◌+◌, ◌&&◌, ◌||◌, nat_lt, List, [], ◌∷◌, length, take, Option, Some, None, is_none, option_map, if◌then◌else◌}
use Rattle.http_heads.specs.declared.fronts.Front.{Front}
use Rattle.http_heads.specs.declared.fronts.Front.TheVariants.{TooLong, Unfinished, Ended}
use Rattle.http_heads.specs.Lines.{whole_lines, is_empty, filled_lines}

-- How many bytes a line takes with its LF.
abbrev pub room : List ℕ → ℕ
room line = length line + 1

-- How many bytes the lines up to and with the first empty one take; `None` where none is empty.
abbrev pub up_to_empty : List (List ℕ) → Option ℕ
up_to_empty [] = None
up_to_empty (line ∷ lines) = if is_empty line then Some (room line) else option_map (λ n. room line + n) (up_to_empty lines)

-- Empty lines at the front are skipped and count as part of the head. Then it goes on up to and with the first empty line.
abbrev pub head_of : List (List ℕ) → Option ℕ
head_of [] = None
head_of (line ∷ lines) = option_map (λ n. room line + n) (if is_empty line then head_of lines else up_to_empty lines)

-- How many bytes the head at the front takes; `None` where its end isn't there.
abbrev pub head_end : List ℕ → Option ℕ
head_end bytes = head_of (whole_lines bytes)

-- The bytes up to the head's end, or all so far where it isn't there.
abbrev pub up_to : Option ℕ → List ℕ → List ℕ
up_to None bytes = bytes
up_to (Some end) bytes = take end bytes

abbrev pub up_to_end : List ℕ → List ℕ
up_to_end bytes = up_to (head_end bytes) bytes

abbrev pub lies_behind : ℕ → Option ℕ → Bool
lies_behind place None = false
lies_behind place (Some end) = nat_lt place end

-- A head is too long where its end isn't within the first 16,384 bytes, though more came than these or its end is known, and
-- where more than 65 lines aren't empty: a start line and 64 fields.
abbrev pub is_too_long : List ℕ → Bool
is_too_long bytes =
    (nat_lt 16384 (length bytes) && is_none (head_end (take 16384 bytes)))
    || lies_behind 16384 (head_end bytes)
    || nat_lt 65 (filled_lines (up_to_end bytes))

abbrev pub ended : Option ℕ → Front
ended None = Unfinished
ended (Some end) = Ended end

-- What the bytes so far begin with.
abbrev pub front_of : List ℕ → Front
front_of bytes = if is_too_long bytes then TooLong else ended (head_end bytes)
