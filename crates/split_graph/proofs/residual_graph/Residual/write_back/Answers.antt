use Rattle.std.proofs.Common.{ℕ, List, ◌+◌, ◌≡◌, ◌∙◌, arith, ap, sym, subst, set}
use Rattle.split_graph.specs.Arcs.{Arcs, twin_of}
use Rattle.split_graph.specs.Network.{Network}
use Rattle.split_graph.specs.inner.Back.{AreReadBefore}
use Rattle.split_graph.proofs.Back.{read_one, read_none}
use Rattle.split_graph.proofs.residual_graph.Residual.write_back.Goals as goal

pub returns-then-back-ne0 : goal.returns-then-back-ne0
returns-then-back-ne0 c =
    let a : Arcs = c.args.self.now.arcs in
    let units : List ℕ = c.args.units.now in
    let back : ℕ = c.units_back-back.result in
    let at : c.twin.result ≡ twin_of a c.args.arc = c.twin.ensures ∙ ap (λ (n : Network). twin_of n.arcs c.args.arc) c.self.view_is in
    subst (λ (d : ℕ). AreReadBefore a (c.args.arc + 1) (set units d back)) (sym at)
    (read_one a c.requires.stands.arcs c.args.arc back units c.requires.arc c.requires.places c.units_back-back.ensures c.requires.read)

pub returns-else-back-ne0 : goal.returns-else-back-ne0
returns-else-back-ne0 c = read_none c.args.self.now.arcs c.requires.stands.arcs c.args.arc c.units_back-back.result c.args.units.now (omega (arith, c.if-back-ne0.false)) c.units_back-back.ensures c.requires.read
