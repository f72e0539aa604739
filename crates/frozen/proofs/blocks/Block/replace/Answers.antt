use Rattle.std.proofs.Common.{refl, arith, ap, ◌+◌, ◌≡◌, ℕ, false, true}
use Rattle.frozen.proofs.Puts.{replace_facts, read_start}
use Rattle.frozen.proofs.blocks.Block.replace.Goals as goal

pub invariant_of-self : goal.invariant_of-self
invariant_of-self c =
    let below = rw (← c.self.view_is) at c.requires.row in
    let found = rw (← c.self.view_is) at c.requires.found in
    ((replace_facts _ c.args.row c.args.place c.args.to _ c.args.level _ c.self.invariant.0 below found c.requires.grade (ap (λ (k : ℕ). k + c.args.place) (read_start _ _ _ c.self.invariant.0 (omega arith) c.index.ensures)) refl).0, λ (h : false ≡ true). cc)

pub returns-clause-part : goal.returns-clause-part
returns-clause-part c =
    let below = rw (← c.self.view_is) at c.requires.row in
    let found = rw (← c.self.view_is) at c.requires.found in
    (replace_facts _ c.args.row c.args.place c.args.to _ c.args.level _ c.self.invariant.0 below found c.requires.grade (ap (λ (k : ℕ). k + c.args.place) (read_start _ _ _ c.self.invariant.0 (omega arith) c.index.ensures)) refl).0

pub returns-clause-written : goal.returns-clause-written
returns-clause-written c =
    let below = rw (← c.self.view_is) at c.requires.row in
    let found = rw (← c.self.view_is) at c.requires.found in
    rw (← c.self.view_is) (replace_facts _ c.args.row c.args.place c.args.to _ c.args.level _ c.self.invariant.0 below found c.requires.grade (ap (λ (k : ℕ). k + c.args.place) (read_start _ _ _ c.self.invariant.0 (omega arith) c.index.ensures)) refl).1
