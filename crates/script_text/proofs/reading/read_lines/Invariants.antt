use Rattle.std.proofs.Common.{◌≡◌, ◌+◌, length}
use Rattle.text_lines.specs.Words.{lines}
use Rattle.text_lines.specs.Reading.{reading}
use Rattle.script_text.specs.Scripts.{script_line, no_lines}
use Rattle.script_text.specs.inner.Drafts.{lines_of}
use Rattle.script_text.proofs.reading.read_lines.Given as goal

abbrev pub invariant-loop-line : goal.invariant-loop-line
invariant-loop-line l = reading script_line (l.text.number + 1) (lines_of l.draft) (lines l.text.bytes) ≡ reading script_line (l.initial.text.number + 1) no_lines (lines l.initial.text.bytes)

abbrev pub decreases-loop-line : goal.decreases-loop-line
decreases-loop-line l = length l.text.bytes
