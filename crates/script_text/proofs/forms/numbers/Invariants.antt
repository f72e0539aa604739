use Rattle.std.proofs.Common.{◌≡◌, length}
use Rattle.site_lines.specs.Site.{numbers}
use Rattle.script_text.proofs.Counting.{after}
use Rattle.script_text.proofs.forms.numbers.Given as goal

abbrev pub invariant-loop-word : goal.invariant-loop-word
invariant-loop-word l = after l.found.items (numbers l.words) ≡ numbers l.initial.words

abbrev pub decreases-loop-word : goal.decreases-loop-word
decreases-loop-word l = length l.words
