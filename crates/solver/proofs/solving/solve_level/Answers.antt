use Rattle.split_graph.proofs.Standing.{rows_loaded}
use Rattle.solver.proofs.Answering.{roster_for}
use Rattle.solver.proofs.solving.solve_level.Goals as goal

pub roster_of-requires-clause-rows : goal.roster_of-requires-clause-rows
roster_of-requires-clause-rows g c = rows_loaded c.solve.new.self.network c.args.frozen.now c.solve.ensures.graph

pub returns-clause-roster : goal.returns-clause-roster
returns-clause-roster g c = roster_for c.args.frozen.now c.args.level c.roster_of.result c.roster_of.ensures.level c.roster_of.ensures.proven c.roster_of.ensures.among
