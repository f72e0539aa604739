use Rattle.std.proofs.Common.{ℕ, List, arith, ap, sym, subst, length, set}
use Rattle.flow_engine.specs.inner.Reached.{Reached, AreMarked}
use Rattle.flow_engine.proofs.Growing.{marked-after}
use Rattle.flow_engine.proofs.reaching.Search.reach.Goals as goal

pub invariant_of-self : goal.invariant_of-self
invariant_of-self c =
    subst (λ (nodes : List ℕ). AreMarked nodes (set c.self.inside.layer.items c.args.node c.args.layer)) (sym c.push_reserved.ensures.items)
    (marked-after c.self.inside.nodes.items c.self.inside.layer.items c.args.node c.args.layer c.self.invariant
    (omega (arith, c.requires.within, ap (λ (s : Reached). length s.layer) c.self.view_is)) c.requires.layer)
