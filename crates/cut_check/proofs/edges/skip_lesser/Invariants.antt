use Rattle.std.proofs.Common.{◌-◌}
use Rattle.cut_check.specs.inner.Cursor.{AreLesser}
use Rattle.cut_check.proofs.edges.skip_lesser.Given as goal

abbrev pub invariant-loop-passed : goal.invariant-loop-passed
invariant-loop-passed g l = AreLesser (g.G.CertGraph.degree_of l.graph l.giver) (g.G.CertGraph.cert_of l.graph l.giver) l.taker l.passed

abbrev pub decreases-loop-passed : goal.decreases-loop-passed
decreases-loop-passed g l = l.degree - l.passed
