-- For playing alone: how an output line is added.
use Rattle.std.specs.Prelude.{ℕ, ◌≡◌, List, ◌++◌, codes}

-- A line of which this is known was added, with the LF that ends it.
abbrev pub AddsLine : (List ℕ → Type 0) → List ℕ → List ℕ → Type 0
AddsLine Says before after = (added : List ℕ) × Says added × (after ≡ before ++ (added ++ codes "\n"))
