use Rattle.std.proofs.Common.{◌≡◌, ◌∙◌, arith, ap, sym}
use Rattle.split_graph.specs.Numbers.{node_number}
use Rattle.split_graph.specs.Arcs.{Arcs, head_of, rest_of, between}
use Rattle.split_graph.specs.Network.{Network}
use Rattle.split_graph.proofs.Units.{between-arc}
use Rattle.split_graph.proofs.Edges.{on_edge, off_edge, none_back}
use Rattle.split_graph.proofs.residual_graph.Residual.units_back.Goals as goal

pub returns-then-units-eq0 : goal.returns-then-units-eq0
returns-then-units-eq0 c u v leads =
    let a : Arcs = c.args.self.now.arcs in
    let rest : c.rest-units.result ≡ between a u v =
    c.rest-units.ensures ∙ ap (λ (n : Network). rest_of n.arcs c.args.arc) c.self.view_is ∙ sym (between-arc a c.requires.stands.arcs u v c.args.arc leads) in
    sym (none_back (between a) v u (omega (arith, rest, c.if-units-eq0.true)))

pub returns-then-is_along_edge : goal.returns-then-is_along_edge
returns-then-is_along_edge c u v leads =
    let a : Arcs = c.args.self.now.arcs in
    let rest : c.rest-units.result ≡ between a u v =
    c.rest-units.ensures ∙ ap (λ (n : Network). rest_of n.arcs c.args.arc) c.self.view_is ∙ sym (between-arc a c.requires.stands.arcs u v c.args.arc leads) in
    let head : c.head.result ≡ node_number v = c.head.ensures ∙ ap (λ (n : Network). head_of n.arcs c.args.arc) c.self.view_is ∙ leads.head in
    let tail : c.args.node ≡ node_number u = sym c.requires.tail ∙ leads.tail in
    rest ∙ sym (on_edge (between a) v u (sym (c.is_along_edge.ensures v u head tail) ∙ c.if-is_along_edge.true))

pub returns : goal.returns
returns c u v leads =
    let a : Arcs = c.args.self.now.arcs in
    let head : c.head.result ≡ node_number v = c.head.ensures ∙ ap (λ (n : Network). head_of n.arcs c.args.arc) c.self.view_is ∙ leads.head in
    let tail : c.args.node ≡ node_number u = sym c.requires.tail ∙ leads.tail in
    sym (off_edge (between a) v u (sym (c.is_along_edge.ensures v u head tail) ∙ c.if-is_along_edge.false))
