-- Lines of greatest totals while they are written. The crate's own functions alone speak of them.
use Rattle.std.specs.Prelude.{ℕ, ◌≡◌, List, ◌++◌}
use Rattle.trust_types.specs.declared.levels.Level.{Level}
use Rattle.trust_types.specs.declared.accounts.Node.{Node}
use Rattle.trust_types.specs.Capacity.{AreCapacities}
use Rattle.trust_types.specs.Cut.{value}
use Rattle.trust_types.specs.Lines.{sides_of}
use Rattle.frozen.specs.Revision.{Revision, certificates}
use Rattle.site_runs.specs.Drills.{IsGreatestTotal, line_of}

-- What a cut of the graph is worth at a level, by the lists of its nodes.
abbrev pub IsWorth : Revision → Level → List Node → List Node → ℕ → Type 0
IsWorth f level pass full worth =
    (cap : Node → ℕ) × AreCapacities (certificates f) level f.caps cap × (worth ≡ value (certificates f) cap (sides_of pass full))

-- The line of the greatest total at a grade was added to a text.
abbrev pub AddsTotal : Revision → Level → List ℕ → List ℕ → Type 0
AddsTotal f level before after = (n : ℕ) × IsGreatestTotal (certificates f) level f.caps n × (after ≡ before ++ line_of level n n)
