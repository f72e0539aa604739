use Rattle.std.proofs.Common.{rules}
use Rattle.cut_check.proofs.MissingEdge.{line_fails_first, lines_hold, one_more_line}
use Rattle.cut_check.proofs.edges.first_missing_edge.Goals as goal

pub returns-then-not-finds : goal.returns-then-not-finds
returns-then-not-finds g c =
    line_fails_first c.loop-line.invariant c.requires.lines c.requires.rises c.loop-line-test.true c.line-item.result c.line-item.is
    (search rules)

pub loop-line-preserved : goal.loop-line-preserved
loop-line-preserved g c =
    one_more_line c.loop-line.invariant c.requires.rises c.loop-line-test.true c.line-item.result c.line-item.is (search rules)
    _ c.finds.ensures.giver _ c.finds.ensures.passed

pub returns : goal.returns
returns g c = lines_hold c.loop-line.invariant c.loop-line-test.false
