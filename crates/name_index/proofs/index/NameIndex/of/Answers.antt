use Rattle.std.proofs.Common.{subst, List, ℕ, arith}
use Rattle.name_index.specs.inner.Indexes.{IsTableOf}
use Rattle.name_index.proofs.Indexing.{indexed_by_table}
use Rattle.name_index.proofs.index.NameIndex.of.Goals as goal

pub invariant_of-result : goal.invariant_of-result
invariant_of-result c =
    indexed_by_table _ _ _ c.requires.apart (omega (arith, c.requires.room))
    (subst (λ (names : List (List ℕ)). IsTableOf names c.in_ok-table.table) c.deref.ensures.value c.in_ok-table.ensures) c.new.ensures.empty
