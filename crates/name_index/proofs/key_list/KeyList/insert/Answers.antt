use Rattle.std.proofs.Common.{◌≡◌, ◌<◌, ◌≤◌, ◌∷◌, List, length, sym, ap, subst, arith}
use Rattle.std.specs.Prelude.{insert, vec_len, vec_capacity}
use Rattle.std.specs.List.Sorted.{IsNonDecreasingBy, IsPermutation}
use Rattle.std.proofs.lemmas.List.Sorted.{IsPermutation-insert}
use Rattle.name_index.specs.declared.key_table.Entry.{Entry}
use Rattle.name_index.proofs.Listed.{IsPlace, rises_with, inserted}
use Rattle.name_index.proofs.key_list.KeyList.insert.Goals as goal

pub invariant_of-self : goal.invariant_of-self
invariant_of-self c =
    let before : List Entry = c.self.inside.entries.items in
    let room : vec_len c.self.inside.entries < vec_capacity c.self.inside.entries = omega (arith, ap (λ list. list.room) c.self.view_is, c.requires.room) in
    let there : c.insert-inserted.new.self.items ≡ insert before c.place_of-place.result c.args.entry =
    inserted _ _ _ _ (c.insert-inserted.ensures.succeeds room) c.insert-inserted.ensures.items in
    subst (IsNonDecreasingBy (λ entry. entry.key)) (sym there)
    (rises_with before c.args.entry c.place_of-place.result c.self.invariant
    (subst (λ entries. c.place_of-place.result ≤ length entries) c.deref.ensures.value c.place_of-place.ensures.within)
    (subst (λ entries. IsPlace entries c.args.entry.key c.place_of-place.result) c.deref.ensures.value c.place_of-place.ensures.place))

pub returns : goal.returns
returns c =
    let before : List Entry = c.self.inside.entries.items in
    let room : vec_len c.self.inside.entries < vec_capacity c.self.inside.entries = omega (arith, ap (λ list. list.room) c.self.view_is, c.requires.room) in
    let there : c.insert-inserted.new.self.items ≡ insert before c.place_of-place.result c.args.entry =
    inserted _ _ _ _ (c.insert-inserted.ensures.succeeds room) c.insert-inserted.ensures.items in
    subst (λ list. IsPermutation (c.args.entry ∷ list.entries) c.insert-inserted.new.self.items) c.self.view_is
    (subst (IsPermutation (c.args.entry ∷ before)) (sym there) (IsPermutation-insert before c.place_of-place.result c.args.entry))
