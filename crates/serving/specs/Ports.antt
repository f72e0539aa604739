-- How many links a port gave over many calls.
use Rattle.std.specs.Prelude.{ℕ, ◌≡◌, ◌<◌, ◌+◌, ◌-◌, ◌^◌, min}

-- A count that is kept as a u64 rose by n, or stands at its last value.
abbrev pub RoseBy : ℕ → ℕ → ℕ → Type 0
RoseBy before now n = before < 2 ^ 64 → now ≡ min (before + n) (2 ^ 64 - 1)
