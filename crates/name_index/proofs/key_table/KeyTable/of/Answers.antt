use Rattle.std.proofs.Common.{◌∙◌, rules, arith, ap, sym, subst, length, List, ℕ}
use Rattle.std.specs.List.Sorted.{IsNonDecreasing}
use Rattle.std.proofs.lemmas.List.{length-map}
use Rattle.std.proofs.lemmas.List.Sorted.{IsNonDecreasingBy-from_sort_by_key}
use Rattle.name_index.specs.inner.KeyTables.{AreBucketStarts}
use Rattle.name_index.specs.declared.key_table.Entry.{Entry}
use Rattle.name_index.proofs.Buckets.{keys_rise, entries_of-map}
use Rattle.name_index.proofs.key_table.KeyTable.of.Goals as goal

pub starts_of-requires-clause-rising : goal.starts_of-requires-clause-rising
starts_of-requires-clause-rising c =
    rw (c.deref-3.ensures.value, c.in_ok-keys.ensures, c.deref.ensures.value) (keys_rise _ (IsNonDecreasingBy-from_sort_by_key (λ entry. entry.key) _ c.sort_unstable_by_key.ensures.sorted (λ a r f called. search rules)))

pub invariant_of-result : goal.invariant_of-result
invariant_of-result c =
    let rising : IsNonDecreasing c.in_ok-keys.keys.items =
    rw (c.in_ok-keys.ensures, c.deref.ensures.value) (keys_rise _ (IsNonDecreasingBy-from_sort_by_key (λ entry. entry.key) _ c.sort_unstable_by_key.ensures.sorted (λ a r f called. search rules))) in
    record {
      rising = rising;
      numbered = rw (c.in_ok-keys.ensures, c.in_ok-numbers.ensures, c.deref.ensures.value, c.deref-2.ensures.value)
          (length-map _ (λ (entry : Entry). entry.number) ∙ sym (length-map _ (λ (entry : Entry). entry.key)));
      places = subst (λ (keys : List ℕ). AreBucketStarts keys c.in_ok-starts.starts.items) c.deref-3.ensures.value c.in_ok-starts.ensures.all;
      long = λ some. omega (arith, c.in_ok-starts.ensures.long, ap length c.deref-3.ensures.value);
    }

pub returns : goal.returns
returns c =
    rw (c.in_ok-keys.ensures, c.in_ok-numbers.ensures, c.deref.ensures.value, c.deref-2.ensures.value, entries_of-map c.sort_unstable_by_key.new.self.items) c.sort_unstable_by_key.ensures.permutation
