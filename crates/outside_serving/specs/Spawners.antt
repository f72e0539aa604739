-- How many threads a spawner keeps.
use Rattle.std.specs.Prelude.{◌≡◌, ◌+◌, ℕ, Result, MatchResult}

-- One thread more is kept where a job was started, and none where the start was refused.
abbrev pub CountsRunning : {E : Type 0} → ℕ → ℕ → Result (Unit {0}) E → Type 0
CountsRunning running running' result = MatchResult result (λ _. running' ≡ running + 1) (λ _. running' ≡ running)

-- What a spawner tells: how many threads it keeps, how many more it has room for, and how many starts failed.
pub record Crew : Type 0 where
  pub running : ℕ
  pub room : ℕ
  pub faults : ℕ
