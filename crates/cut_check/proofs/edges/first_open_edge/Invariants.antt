use Rattle.std.proofs.Common.{ℕ, ◌≤◌}
use Rattle.trust_types.specs.declared.accounts.Node.{Node}
use Rattle.trust_types.specs.Lines.{place}
use Rattle.cut_check.specs.Rules.{EndsInside}
use Rattle.cut_check.specs.Sides.{side_by}
use Rattle.cut_check.proofs.edges.first_open_edge.Given as goal

abbrev pub invariant-loop-number : goal.invariant-loop-number
invariant-loop-number g l =
    (x : Node) (b : ℕ) → place x ≤ l.number → EndsInside (g.G.CertGraph.certificates l.graph) l.level (side_by l.root l.sides) x b
