use Rattle.std.proofs.Common.{ℕ, List, ◌+◌, ◌*◌, ◌<◌, ◌≡◌, ◌∙◌, arith, ap, sym, subst}
use Rattle.trust_types.specs.declared.accounts.Node.TheVariants.{Account}
use Rattle.split_flow.specs.Split.{InHalf}
use Rattle.split_graph.specs.Numbers.{node_number, node_count}
use Rattle.split_graph.specs.Arcs.{Arcs, arc_count, first_of, twin_of}
use Rattle.split_graph.specs.Network.{Network}
use Rattle.split_graph.proofs.Back.{begins}
use Rattle.split_graph.proofs.residual_graph.Residual.unload.Goals as goal

pub loop-account-init : goal.loop-account-init
loop-account-init g c = record {
  read = begins c.args.self.now c.requires.stands c.clear.new.units c.clear.ensures.none;
  within = omega arith;
}

pub returns-clause-units : goal.returns-clause-units
returns-clause-units g c u v arc leads =
    let a : Arcs = c.args.self.now.arcs in
    let accounts : c.self.inside.accounts ≡ a.accounts = ap (λ (n : Network). n.arcs.accounts) c.self.view_is in
    let last : node_count a.accounts ≡ node_number (InHalf (Account c.loop-account.account)) = omega (arith, c.loop-account-test.false, c.loop-account.invariant.within, accounts) in
    let end : arc_count a ≡ first_of a (node_number (InHalf (Account c.loop-account.account))) = ap (first_of a) last in
    c.loop-account.invariant.read.done u v arc leads (omega (arith, c.requires.stands.arcs.twin_within arc leads.within, end))
