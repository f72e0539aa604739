use Rattle.std.proofs.Common.{take, length, None, ◌<◌, ◌+◌, ◌∷◌, ◌++◌, [], ◌≡◌, ◌∙◌, sym, ap, List, ℕ, arith}
use Rattle.std.proofs.lemmas.List.{take_more, length-take-le, get_or-take, get_or_default}
use Rattle.trust_types.specs.NameLists.{number_of}
use Rattle.name_index.specs.declared.key_table.Entry.{Entry}
use Rattle.name_index.proofs.Indexing.{table_more, not_found}
use Rattle.name_index.proofs.index.entries_of.Goals as goal

pub loop-number-preserved : goal.loop-number-preserved
loop-number-preserved c =
    let names : List (List ℕ) = c.args.names.now in
    let i : ℕ = c.loop-number.number in
    let name : List ℕ = c.index-names-number.result in
    let here : i < length names = c.loop-number-test.true in
    let seen : take (i + 1) names ≡ take i names ++ name ∷ [] =
    take_more names i name here ∙ ap (λ (x : List ℕ). take i names ++ x ∷ []) (sym c.index-names-number.is) in
    let long : length (take i names) ≡ i = length-take-le i names (omega arith) in
    let none : number_of (take i names) name ≡ None = not_found (take i names) name (λ k d below same.
    c.requires.apart k i d (omega (arith, long)) here
    (sym (get_or-take i names k d (omega (arith, long))) ∙ same ∙ c.index-names-number.is ∙ get_or_default names i name d here)) in
    let entry : Entry = record { key = c.spread_key.result; number = i } in
    record {
      room = omega (arith, c.push_reserved.ensures.capacity, c.loop-number.invariant.room);
      made = omega (arith, c.push_reserved.ensures.len, c.loop-number.invariant.made);
      whole = rw (seen, c.push_reserved.ensures.items) (table_more (take i names) c.loop-number.entries.items name entry c.loop-number.invariant.whole none (sym long) c.spread_key.ensures.apart);
    }
