use Rattle.std.proofs.Common.{take}
use Rattle.site_text.specs.View.{of_frozen}
use Rattle.commands.specs.inner.Lines.{AddsLines}
use Rattle.commands.proofs.rosters.push_grades.Given as goal

abbrev pub invariant-loop-level : goal.invariant-loop-level
invariant-loop-level l = AddsLines (of_frozen l.candidate.graph) (take l.level-index l.levels) l.initial.text.items l.text.items
