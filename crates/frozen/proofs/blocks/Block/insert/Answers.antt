use Rattle.std.proofs.Common.{◌≡◌, ◌<◌, ◌+◌, ◌^◌, ℕ, ap, arith, rules, length, false, true, ◌∙◌, subst, List}
use Rattle.std.specs.Vec.{vec_len, with_items}
use Rattle.std.proofs.lemmas.List.{with_items_is}
use Rattle.frozen.specs.inner.Rows.{IsRaised}
use Rattle.frozen.proofs.Puts.{insert_facts, read_start}
use Rattle.frozen.proofs.blocks.Block.insert.Goals as goal

pub invariant_of-self : goal.invariant_of-self
invariant_of-self c =
    let below = rw (← c.self.view_is) at c.requires.row in
    let place = rw (← c.self.view_is) at c.requires.place in
    let has_room = rw (← c.self.view_is) at c.requires.room in
    let n : length c.self.inside.takers.items ≡ vec_len c.self.inside.takers = search rules in
    let few : length c.self.inside.takers.items + 1 < 2 ^ 32 = omega (arith, n, (c.self.invariant.1 has_room).6) in
    let raised : IsRaised c.self.inside.starts.items c.raise.new.numbers (c.args.row + 1) = subst (λ (s : List ℕ). IsRaised s c.raise.new.numbers (c.args.row + 1)) c.deref_mut.ensures.value c.raise.ensures in
    let same : (with_items c.self.inside.starts c.raise.new.numbers).items ≡ c.raise.new.numbers = with_items_is c.self.inside.starts c.raise.new.numbers (c.raise.auto.numbers ∙ c.deref_mut.ensures.len) in
    let facts = insert_facts _ c.args.row c.args.place c.args.to _ c.args.level _ _ _ _ c.self.invariant.0 below place c.requires.grade few raised same (ap (λ (k : ℕ). k + c.args.place) (read_start _ _ _ c.self.invariant.0 (omega arith) c.index.ensures)) c.insert_reserved.ensures.items c.insert_reserved-2.ensures.items in
    (facts.0, λ (h : false ≡ true). cc)

pub returns-clause-part : goal.returns-clause-part
returns-clause-part c =
    let below = rw (← c.self.view_is) at c.requires.row in
    let place = rw (← c.self.view_is) at c.requires.place in
    let has_room = rw (← c.self.view_is) at c.requires.room in
    let n : length c.self.inside.takers.items ≡ vec_len c.self.inside.takers = search rules in
    let few : length c.self.inside.takers.items + 1 < 2 ^ 32 = omega (arith, n, (c.self.invariant.1 has_room).6) in
    let raised : IsRaised c.self.inside.starts.items c.raise.new.numbers (c.args.row + 1) = subst (λ (s : List ℕ). IsRaised s c.raise.new.numbers (c.args.row + 1)) c.deref_mut.ensures.value c.raise.ensures in
    let same : (with_items c.self.inside.starts c.raise.new.numbers).items ≡ c.raise.new.numbers = with_items_is c.self.inside.starts c.raise.new.numbers (c.raise.auto.numbers ∙ c.deref_mut.ensures.len) in
    (insert_facts _ c.args.row c.args.place c.args.to _ c.args.level _ _ _ _ c.self.invariant.0 below place c.requires.grade few raised same (ap (λ (k : ℕ). k + c.args.place) (read_start _ _ _ c.self.invariant.0 (omega arith) c.index.ensures)) c.insert_reserved.ensures.items c.insert_reserved-2.ensures.items).0

pub returns-clause-written : goal.returns-clause-written
returns-clause-written c =
    let below = rw (← c.self.view_is) at c.requires.row in
    let place = rw (← c.self.view_is) at c.requires.place in
    let has_room = rw (← c.self.view_is) at c.requires.room in
    let n : length c.self.inside.takers.items ≡ vec_len c.self.inside.takers = search rules in
    let few : length c.self.inside.takers.items + 1 < 2 ^ 32 = omega (arith, n, (c.self.invariant.1 has_room).6) in
    let raised : IsRaised c.self.inside.starts.items c.raise.new.numbers (c.args.row + 1) = subst (λ (s : List ℕ). IsRaised s c.raise.new.numbers (c.args.row + 1)) c.deref_mut.ensures.value c.raise.ensures in
    let same : (with_items c.self.inside.starts c.raise.new.numbers).items ≡ c.raise.new.numbers = with_items_is c.self.inside.starts c.raise.new.numbers (c.raise.auto.numbers ∙ c.deref_mut.ensures.len) in
    rw (← c.self.view_is) (insert_facts _ c.args.row c.args.place c.args.to _ c.args.level _ _ _ _ c.self.invariant.0 below place c.requires.grade few raised same (ap (λ (k : ℕ). k + c.args.place) (read_start _ _ _ c.self.invariant.0 (omega arith) c.index.ensures)) c.insert_reserved.ensures.items c.insert_reserved-2.ensures.items).1
