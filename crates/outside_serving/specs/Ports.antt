-- How many links a port gave.
use Rattle.std.specs.Prelude.{◌≡◌, ℕ, Result, MatchResult}
use Rattle.outside.specs.Causes.{one_more}

-- The count of links rises by one where a link is given, and stays at a failure.
abbrev pub CountsGiven : {L E : Type 0} → ℕ → ℕ → Result L E → Type 0
CountsGiven given given' result = MatchResult result (λ _. given' ≡ one_more given) (λ _. given' ≡ given)
