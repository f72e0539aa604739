-- Who certifies whom, by account that is certified. The crate's own functions alone speak of it.
use Rattle.std.specs.Prelude.{ℕ, Bool, ◌≡◌, ◌<◌, ◌≤◌, ◌==◌, List, [], length, slice_index, slice_index_or}
use Rattle.std.specs.List.{list_any}

-- Accounts in rising order, and how many more fit before memory is taken.
pub record Givers : Type 0 where
  pub accounts : List ℕ
  pub room : ℕ

abbrev pub no_givers : Givers
no_givers = record { accounts = []; room = 0 }

-- A list for each account, and how many more lists fit before memory is taken.
pub record Takings : Type 0 where
  pub lists : List Givers
  pub room : ℕ

-- Those who certify an account.
abbrev pub givers_of : Takings → ℕ → List ℕ
givers_of takings b = (slice_index_or takings.lists b no_givers).accounts

-- How many more fit there.
abbrev pub room_at : Takings → ℕ → ℕ
room_at takings b = (slice_index_or takings.lists b no_givers).room

abbrev pub Rises : List ℕ → Type 0
Rises xs = (i j : ℕ) → i < j → j < length xs → slice_index xs i < slice_index xs j

abbrev pub has : List ℕ → ℕ → Bool
has xs a = list_any (λ x. x == a) xs

-- Where an account stands among them, or where it would.
pub record IsFound (xs : List ℕ) (a place : ℕ) : Type 0 where
  pub within : place < length xs
  pub here : slice_index xs place ≡ a

pub record IsPlace (xs : List ℕ) (a place : ℕ) : Type 0 where
  pub within : place ≤ length xs
  pub before : (k : ℕ) → k < place → slice_index xs k < a
  pub behind : (k : ℕ) → place ≤ k → k < length xs → a < slice_index xs k
