use Rattle.std.proofs.Common.{◌≡◌, ◌++◌, length}
use Rattle.markup.specs.Escapes.{escaped}
use Rattle.markup.proofs.escaping.write_escaped.Given as goal

abbrev pub invariant-loop-rest : goal.invariant-loop-rest
invariant-loop-rest l = l.html.items ++ escaped l.rest ≡ l.fn.html.items ++ escaped l.fn.text

abbrev pub decreases-loop-rest : goal.decreases-loop-rest
decreases-loop-rest l = length l.rest
