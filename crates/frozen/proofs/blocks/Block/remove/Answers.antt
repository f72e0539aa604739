use Rattle.std.proofs.Common.{◌≡◌, ◌+◌, ℕ, ap, arith, false, true, ◌∙◌, subst, List}
use Rattle.std.specs.Vec.{with_items}
use Rattle.std.proofs.lemmas.List.{with_items_is}
use Rattle.frozen.specs.inner.Rows.{IsRaised}
use Rattle.frozen.proofs.Puts.{remove_facts, read_start, some_behind}
use Rattle.frozen.proofs.blocks.Block.remove.Goals as goal

pub lower-requires : goal.lower-requires
lower-requires c =
    let below = rw (← c.self.view_is) at c.requires.row in
    let found = rw (← c.self.view_is) at c.requires.found in
    record { some = rw c.deref_mut.ensures.value (λ k le lt. some_behind _ c.self.invariant.0 c.args.row c.args.place c.args.to k below found le lt) }

pub invariant_of-self : goal.invariant_of-self
invariant_of-self c =
    let below = rw (← c.self.view_is) at c.requires.row in
    let found = rw (← c.self.view_is) at c.requires.found in
    let raised : IsRaised c.lower.new.numbers c.self.inside.starts.items (c.args.row + 1) = subst (λ (s : List ℕ). IsRaised c.lower.new.numbers s (c.args.row + 1)) c.deref_mut.ensures.value c.lower.ensures in
    let same : (with_items c.self.inside.starts c.lower.new.numbers).items ≡ c.lower.new.numbers = with_items_is c.self.inside.starts c.lower.new.numbers (c.lower.auto.numbers ∙ c.deref_mut.ensures.len) in
    let facts = remove_facts _ c.args.row c.args.place c.args.to _ c.args.level _ _ _ _ c.self.invariant.0 below found c.requires.none raised same (ap (λ (k : ℕ). k + c.args.place) (read_start _ _ _ c.self.invariant.0 (omega arith) c.index.ensures)) c.remove.ensures.items c.remove-2.ensures.items in
    (facts.0, λ (h : false ≡ true). cc)

pub returns-clause-part : goal.returns-clause-part
returns-clause-part c =
    let below = rw (← c.self.view_is) at c.requires.row in
    let found = rw (← c.self.view_is) at c.requires.found in
    let raised : IsRaised c.lower.new.numbers c.self.inside.starts.items (c.args.row + 1) = subst (λ (s : List ℕ). IsRaised c.lower.new.numbers s (c.args.row + 1)) c.deref_mut.ensures.value c.lower.ensures in
    let same : (with_items c.self.inside.starts c.lower.new.numbers).items ≡ c.lower.new.numbers = with_items_is c.self.inside.starts c.lower.new.numbers (c.lower.auto.numbers ∙ c.deref_mut.ensures.len) in
    (remove_facts _ c.args.row c.args.place c.args.to _ c.args.level _ _ _ _ c.self.invariant.0 below found c.requires.none raised same (ap (λ (k : ℕ). k + c.args.place) (read_start _ _ _ c.self.invariant.0 (omega arith) c.index.ensures)) c.remove.ensures.items c.remove-2.ensures.items).0

pub returns-clause-written : goal.returns-clause-written
returns-clause-written c =
    let below = rw (← c.self.view_is) at c.requires.row in
    let found = rw (← c.self.view_is) at c.requires.found in
    let raised : IsRaised c.lower.new.numbers c.self.inside.starts.items (c.args.row + 1) = subst (λ (s : List ℕ). IsRaised c.lower.new.numbers s (c.args.row + 1)) c.deref_mut.ensures.value c.lower.ensures in
    let same : (with_items c.self.inside.starts c.lower.new.numbers).items ≡ c.lower.new.numbers = with_items_is c.self.inside.starts c.lower.new.numbers (c.lower.auto.numbers ∙ c.deref_mut.ensures.len) in
    rw (← c.self.view_is) (remove_facts _ c.args.row c.args.place c.args.to _ c.args.level _ _ _ _ c.self.invariant.0 below found c.requires.none raised same (ap (λ (k : ℕ). k + c.args.place) (read_start _ _ _ c.self.invariant.0 (omega arith) c.index.ensures)) c.remove.ensures.items c.remove-2.ensures.items).1
