-- What is left of a text while its lines are read.
use Rattle.std.specs.Prelude.{ℕ, List}

-- How many lines were read, and the bytes after them.
pub record Unread : Type 0 where
  pub number : ℕ
  pub bytes : List ℕ
