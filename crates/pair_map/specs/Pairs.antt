-- Maps from pairs of numbers, as the lists of their entries.
use Rattle.std.specs.Prelude.{ℕ, ◌==◌, ◌&&◌, ◌<◌, ◌≡◌, ◌⊎◌, List, Option, AllPairs, if◌then◌else◌}
use Rattle.std.specs.Map.{lookup}

-- The entries of a map: pairs of numbers, each with its value.
abbrev pub Pairs : Type 0 → Type 0
Pairs V = List ((ℕ × ℕ) × V)

-- The value at a pair, where it has one.
abbrev pub value_at : {V : Type 0} → Pairs V → ℕ → ℕ → Option V
value_at entries a b = lookup (λ pair. (a == pair.0) && (b == pair.1)) entries

-- The pair has this value now, or none, and every other pair what it had.
abbrev pub IsSet : {V : Type 0} → Pairs V → Pairs V → ℕ → ℕ → Option V → Type 0
IsSet old new a b value = (x y : ℕ) → value_at new x y ≡ (if (a == x) && (b == y) then value else value_at old x y)

-- By the first number, then by the second; so no pair stands twice.
abbrev pub Rises : {V : Type 0} → Pairs V → Type 0
Rises {V} entries = AllPairs (λ (e f : (ℕ × ℕ) × V). (e.0.0 < f.0.0) ⊎ ((e.0.0 ≡ f.0.0) × (e.0.1 < f.0.1))) entries
