use Rattle.std.proofs.Common.{arith, ap, ◌∙◌, List, ℕ, ◌≡◌, ◌<◌, ◌^◌, ◌++◌, ◌∷◌, [], None, length, Option}
use Rattle.trust_types.specs.NameLists.{number_of}
use Rattle.name_index.specs.inner.Indexes.{IsIndexed}
use Rattle.name_index.proofs.Indexing.{indexed_more}
use Rattle.name_index.proofs.index.NameIndex.push.Goals as goal

abbrev number_in : List ℕ → List (List ℕ) → Option ℕ
number_in name names = number_of names name

pub invariant_of-self-2 : goal.invariant_of-self-2
invariant_of-self-2 c =
    let before : List (List ℕ) = c.self.inside.names.items in
    let kept : c.reserve.new.self.items ≡ before = c.in_ok-reserve.ensures.items in
    let none : number_of before c.args.name ≡ None = ap (number_in c.args.name) c.self.view_is ∙ c.requires.new in
    let room : length before < 2 ^ 32 = omega (arith, ap length c.self.view_is, c.requires.room) in
    let more : IsIndexed (before ++ c.args.name ∷ []) c.self.inside.table c.insert.new.self =
    indexed_more before c.self.inside.table c.self.inside.recent c.insert.new.self c.args.name c.spread_key.result c.len.result c.self.invariant none room (grind (arith, c.len.ensures, ap length kept)) c.in_ok-insert.ensures.updates.0 c.spread_key.ensures.apart in
    rw (c.push_reserved.ensures.items, kept) more
