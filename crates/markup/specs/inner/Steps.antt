-- For this crate's own functions: what a step did to what was written and to what is open.
use Rattle.std.specs.Prelude.{ℕ, Bool, true, false, List, ◌++◌, ◌≡◌, Option, Some, None}
use Rattle.markup.specs.declared.elements.Element.{Element}
use Rattle.markup.specs.Cleaning.{Step}

-- The step was done, and this text is left.
abbrev pub Does : List ℕ → List ℕ → List ℕ → List Element → Step → Type 0
Does rest old new after step = (rest ≡ step.rest) × (new ≡ old ++ step.written) × (after ≡ step.opened)

-- A rule was applied to a tag that this text is behind, or it doesn't apply and nothing was done.
abbrev pub Applies : Bool → List ℕ → List ℕ → List ℕ → List Element → List Element → Option Step → Type 0
Applies true rest old new before after None = ⊥
Applies true rest old new before after (Some step) = Does rest old new after step
Applies false rest old new before after rule = (rule ≡ None) × (new ≡ old) × (after ≡ before)
