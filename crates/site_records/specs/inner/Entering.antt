-- The values that are left while the entries of a table are read.
use Rattle.std.specs.Prelude.{ℕ, List, [], Option, Some, None, ◌==◌, ◌+◌, length}
use Rattle.std.specs.Borrow.{Bor}
use Rattle.std.specs.List.{slice_split}

abbrev pub pieces : Option (Bor (List ℕ)) → List (List ℕ)
pieces None = []
pieces (Some values) = slice_split (λ b. b == 43) values.now

-- One more than their bytes, as long as there are some.
abbrev pub bytes_left : Option (Bor (List ℕ)) → ℕ
bytes_left None = 0
bytes_left (Some values) = length values.now + 1
