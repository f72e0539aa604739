use Rattle.flow_engine.specs.Solved.{flow_in}
use Rattle.solver.proofs.Proving.{Written, written, goes_along, in_order, cut, proven}
use Rattle.solver.proofs.Among.{among}
use Rattle.solver.proofs.reading.roster_of.Goals as goal

pub flow_lines-requires-clause-goes_along : goal.flow_lines-requires-clause-goes_along
flow_lines-requires-clause-goes_along c =
    goes_along c.args.frozen.now.parts c.args.level (flow_in c.args.workspace.now) c.accounts-accounts.ensures.readers c.requires.grade c.requires.solved.greatest.feasible.edges

pub invariant_of-result : goal.invariant_of-result
invariant_of-result c =
    let w : Written = written c.accounts-accounts.result c.accounts-accounts.ensures.value c.requires.solved c.in_ok-served.ensures c.in_ok-flow.ensures c.in_ok-cut.ensures in
    record { grade = c.requires.grade; in_order = in_order w; root = (cut w).root }

pub returns-clause-proven : goal.returns-clause-proven
returns-clause-proven c =
    proven (written c.accounts-accounts.result c.accounts-accounts.ensures.value c.requires.solved c.in_ok-served.ensures c.in_ok-flow.ensures c.in_ok-cut.ensures)

pub returns-clause-among : goal.returns-clause-among
returns-clause-among c =
    among (written c.accounts-accounts.result c.accounts-accounts.ensures.value c.requires.solved c.in_ok-served.ensures c.in_ok-flow.ensures c.in_ok-cut.ensures)
