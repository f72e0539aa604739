use Rattle.cut_check.proofs.MissingEdge.{LieOnEdges}
use Rattle.cut_check.proofs.edges.first_missing_edge.Given as goal

abbrev pub invariant-loop-line : goal.invariant-loop-line
invariant-loop-line g l =
    LieOnEdges (g.G.CertGraph.certificates l.graph) (g.G.CertGraph.degree_of l.graph) (g.G.CertGraph.cert_of l.graph) l.level
    l.flow l.line-index l.cursor.giver l.cursor.passed
