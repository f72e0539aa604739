use Rattle.std.proofs.Common.{◌≡◌, ℕ, List, ◌∷◌, length, take}
use Rattle.site_lines.specs.Site.{numbers}
use Rattle.site_lines.proofs.Entering.{after}
use Rattle.site_lines.proofs.entries.FirstEntries.read.Given as goal

abbrev pub invariant-loop-word : goal.invariant-loop-word
invariant-loop-word l = (read : List ℕ) × (l.entries ≡ take 17 read) × (after read (numbers l.others) ≡ numbers (l.first ∷ l.initial.others))

abbrev pub decreases-loop-word : goal.decreases-loop-word
decreases-loop-word l = length l.others
