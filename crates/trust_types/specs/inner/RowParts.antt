-- What the lists of a graph's rows are made of, one after another. The crate's own functions alone speak of it.
use Rattle.std.specs.Prelude.{ℕ, Bool, false, ◌≡◌, ◌<◌, ◌≤◌, ◌+◌, List, length, slice_index, slice_index_or, IsTrue, ◌↔◌, Contains}

-- The account is a seed exactly where its flag is set.
pub record AreFlags (flags : List Bool) (accounts : ℕ) (seeds : List ℕ) : Type 0 where
  pub long : length flags ≡ accounts
  pub set : (a : ℕ) → IsTrue (slice_index_or flags a false) ↔ Contains seeds a

-- The givers before a place are lesser than this one, and those from it on are not.
pub record SplitsAt (givers : List ℕ) (a start : ℕ) : Type 0 where
  pub within : start ≤ length givers
  pub before : (k : ℕ) → k < start → slice_index givers k < a
  pub behind : (k : ℕ) → start ≤ k → k < length givers → a ≤ slice_index givers k

-- At each of so many places, and at the end, the givers are split by the place's number.
pub record AreRowStarts (starts : List ℕ) (accounts : ℕ) (givers : List ℕ) : Type 0 where
  pub long : length starts ≡ accounts + 1
  pub split : (a : ℕ) → a ≤ accounts → SplitsAt givers a (slice_index starts a)
