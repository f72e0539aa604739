use Rattle.std.proofs.Common.{ℕ, ◌+◌, ◌≡◌, ◌∙◌, arith, ap, sym, subst, get_or}
use Rattle.trust_types.specs.declared.accounts.Node.TheVariants.{Account}
use Rattle.split_flow.specs.Split.{InHalf}
use Rattle.split_graph.specs.Numbers.{node_number}
use Rattle.split_graph.specs.Arcs.{Arcs, first_of}
use Rattle.split_graph.specs.Network.{Network}
use Rattle.split_graph.specs.inner.Back.{AreReadBefore}
use Rattle.split_graph.proofs.Back.{own_first, own_passed, next_account}
use Rattle.split_graph.proofs.residual_graph.Residual.write_row.Goals as goal

pub loop-arc-init : goal.loop-arc-init
loop-arc-init c =
    let a : Arcs = c.args.self.now.arcs in
    let w : ℕ = node_number (InHalf (Account c.args.account)) in
    let from : c.first-from.result ≡ first_of a w =
    c.first-from.ensures ∙ ap (λ (v : ℕ). get_or c.self.inside.table.first v 0) c.in_half-node.ensures ∙ ap (λ (n : Network). first_of n.arcs w) c.self.view_is in
    let to : c.first-to.result ≡ first_of a (w + 1) =
    c.first-to.ensures ∙ ap (λ (v : ℕ). get_or c.self.inside.table.first (v + 1) 0) c.in_half-node.ensures ∙ ap (λ (n : Network). first_of n.arcs (w + 1)) c.self.view_is in
    record {
      read = subst (λ (k : ℕ). AreReadBefore a (k + 2) c.args.units.now) (sym from) (own_passed c.args.self.now c.requires.stands c.args.account c.args.units.now c.requires.account c.requires.read);
      end = to;
      within = omega (arith, from, to, own_first c.args.self.now c.requires.stands c.args.account c.requires.account);
    }

pub write_back-requires-clause-arc : goal.write_back-requires-clause-arc
write_back-requires-clause-arc c =
    omega (arith, c.loop-arc-test.true, c.loop-arc.invariant.end, c.requires.stands.arcs.first_within (node_number (InHalf (Account c.args.account)) + 1) (omega (arith, c.requires.account)))

pub returns : goal.returns
returns c =
    let end : c.loop-arc.arc ≡ first_of c.args.self.now.arcs (node_number (InHalf (Account c.args.account)) + 1) = omega (arith, c.loop-arc-test.false, c.loop-arc.invariant.within, c.loop-arc.invariant.end) in
    next_account c.args.self.now c.requires.stands c.args.account c.loop-arc.units c.requires.account
    (subst (λ (k : ℕ). AreReadBefore c.args.self.now.arcs k c.loop-arc.units) end c.loop-arc.invariant.read)
