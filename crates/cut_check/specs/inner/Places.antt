-- The room of a scratch. The crate's own functions alone speak of it.
use Rattle.std.specs.Prelude.{ℕ, ◌≡◌}

-- Four lists of these lengths have a place for each of n accounts.
pub record HavePlaces (n ins outs ats caps : ℕ) : Type 0 where
  pub into : ins ≡ n
  pub out : outs ≡ n
  pub sides : ats ≡ n
  pub capacities : caps ≡ n
