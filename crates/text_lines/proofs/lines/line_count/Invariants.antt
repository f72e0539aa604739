use Rattle.std.proofs.Common.{◌≡◌, ◌+◌, length}
use Rattle.text_lines.specs.Words.{lines}
use Rattle.text_lines.proofs.lines.line_count.Given as goal

abbrev pub invariant-loop : goal.invariant-loop
invariant-loop l = l.text.number + length (lines l.text.bytes) ≡ length (lines l.bytes)

abbrev pub decreases-loop : goal.decreases-loop
decreases-loop l = length l.text.bytes
