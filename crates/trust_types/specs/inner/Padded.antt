-- A short list in an array that it needn't fill. The crate's own types alone are kept so.
use Rattle.std.specs.Prelude.{ℕ, List, ◌≡◌, ◌-◌, ◌++◌, length, take, replicate}

-- The items with zeros behind them, so many in all.
abbrev pub padded : ℕ → List ℕ → List ℕ
padded room items = items ++ replicate (room - length items) 0

-- The first n places of an array hold items, and the others are 0.
pub record IsPadded (room : ℕ) (array : List ℕ) (n : ℕ) : Type 0 where
  pub long : length (take n array) ≡ n
  pub rest : array ≡ padded room (take n array)
