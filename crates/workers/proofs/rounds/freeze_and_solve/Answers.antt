use Rattle.std.proofs.Common.{rules}
use Rattle.workers.proofs.Asking.{asks_behind}
use Rattle.workers.proofs.Rounding.{froze, frozen_past, round_after}
use Rattle.workers.proofs.rounds.freeze_and_solve.Goals as goal

pub solve_and_publish-requires-clause-past : goal.solve_and_publish-requires-clause-past
solve_and_publish-requires-clause-past g c =
    let past = frozen_past c.args.seat.now c.freeze.new.seat c.in-Ok.graph.value c.in-Ok.ensures.graph in
    first_of (search past, search (rules, past))

pub returns-in-Ok-clause-came : goal.returns-in-Ok-clause-came
returns-in-Ok-clause-came g c =
    round_after c.args.seat.now c.freeze.new.seat c.solve_and_publish.new.seat c.in-Ok.graph.value.number c.solve_and_publish.result
    (froze c.args.seat.now c.freeze.new.seat c.in-Ok.graph.value c.in-Ok.ensures.graph) c.solve_and_publish.ensures.came

pub returns-in-Ok-clause-asked : goal.returns-in-Ok-clause-asked
returns-in-Ok-clause-asked g c =
    asks_behind c.freeze.new.seat c.solve_and_publish.new.seat c.in-Ok.graph.value.number _ _ _ c.solve_and_publish.result
    c.solve_and_publish.ensures.came c.pass.ensures.asked c.solve_and_publish.ensures.asked
