use Rattle.std.proofs.Common.{ℕ, ◌≡◌, ◌∙◌, ap, sym, subst, arith, List, ◌∷◌, [], ◌++◌, length, set}
use Rattle.std.proofs.lemmas.List.{with_items_is}
use Rattle.std.specs.Vec.{with_items}
use Rattle.flow_engine.specs.inner.Reached.{Reached, AreMarked, first_node}
use Rattle.flow_engine.proofs.Growing.{begins, marked_first}
use Rattle.flow_engine.proofs.reaching.Search.begin.Goals as goal

pub returns : goal.returns
returns c =
    let old : Reached = c.args.self.now in
    let layer : List ℕ = c.clear_layers.new.layer in
    let is : (with_items c.self.inside.layer layer).items ≡ layer = with_items_is c.self.inside.layer layer (c.clear_layers.auto.layer ∙ c.deref_mut.ensures.len) in
    let long : length layer ≡ length old.layer =
    c.clear_layers.auto.layer ∙ ap length c.deref_mut.ensures.value ∙ ap (λ (s : Reached). length s.layer) c.self.view_is in
    begins c.args.residual.now.arcs old _ layer (omega (arith, c.requires.room.layer, long)) long c.clear_layers.ensures (omega (arith, c.requires.room.cursor))
    (c.push_reserved.ensures.items ∙ ap (λ (nodes : List ℕ). nodes ++ first_node ∷ []) c.clear.ensures.items)
    (ap (λ (ls : List ℕ). set ls first_node 0) is)
    (ap (λ (s : Reached). set s.cursor first_node c.first-cursor.result) c.self.view_is ∙ ap (λ (k : ℕ). set old.cursor first_node k) c.first-cursor.ensures)
    (c.push_reserved.ensures.capacity ∙ c.clear.ensures.capacity ∙ ap (λ (s : Reached). s.room) c.self.view_is)

pub invariant_of-self : goal.invariant_of-self
invariant_of-self c =
    let layer : List ℕ = c.clear_layers.new.layer in
    let is : (with_items c.self.inside.layer layer).items ≡ layer = with_items_is c.self.inside.layer layer (c.clear_layers.auto.layer ∙ c.deref_mut.ensures.len) in
    let long : length layer ≡ length c.args.self.now.layer =
    c.clear_layers.auto.layer ∙ ap length c.deref_mut.ensures.value ∙ ap (λ (s : Reached). length s.layer) c.self.view_is in
    subst (λ (ls : List ℕ). AreMarked c.push_reserved.new.self.items (set ls first_node 0)) (sym is)
    (marked_first c.push_reserved.new.self.items layer (c.push_reserved.ensures.items ∙ ap (λ (nodes : List ℕ). nodes ++ first_node ∷ []) c.clear.ensures.items)
    (omega (arith, c.requires.room.layer, long)) c.clear_layers.ensures)
