use Rattle.std.proofs.Common.{◌≡◌, length}
use Rattle.text_lines.specs.Words.{words}
use Rattle.http_requests.specs.Actions.{numbers}
use Rattle.http_requests.proofs.Numbering.{onto_all}
use Rattle.http_requests.proofs.actions.numbers.Given as goal

abbrev pub invariant-words : goal.invariant-words
invariant-words l = numbers (words l.text) ≡ onto_all l.found.items (numbers l.left)

abbrev pub decreases-words : goal.decreases-words
decreases-words l = length l.left
