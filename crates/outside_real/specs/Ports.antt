-- What a port of the machine tells.
use Rattle.std.specs.Prelude.{ℕ}

-- how many accepts failed, and how many links were given
pub record Accepts : Type 0 where
  pub faults : ℕ
  pub given : ℕ
