use Rattle.std.proofs.Common.{◌≡◌, ◌∙◌, ap, subst}
use Rattle.std.specs.Prelude.{Some}
use Rattle.split_graph.specs.Arcs.{IsSameGraph}
use Rattle.split_graph.proofs.Standing.{still_laid}
use Rattle.flow_engine.specs.Solved.{Solved}
use Rattle.flow_engine.proofs.solving.Workspace.solve_again.Goals as goal

pub solve-requires-clause-laid : goal.solve-requires-clause-laid
solve-requires-clause-laid g c =
    let w = c.self.inside in
    let is : w.residual.graph ≡ Some c.args.frozen.now = ap (λ (s : Solved). s.network.graph) c.self.view_is ∙ c.requires.graph in
    still_laid w.residual (c.self.invariant.1 c.args.frozen.now is).stands c.args.frozen.now is

pub returns-clause-arcs : goal.returns-clause-arcs
returns-clause-arcs g c = subst (λ (s : Solved). IsSameGraph s.network.arcs c.solve.new.residual.arcs) c.self.view_is c.solve.ensures.arcs
