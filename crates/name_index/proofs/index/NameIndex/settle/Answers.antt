use Rattle.std.proofs.Common.{subst, List, ℕ}
use Rattle.name_index.specs.inner.Indexes.{IsTableOf}
use Rattle.name_index.proofs.Indexing.{indexed_by_table}
use Rattle.name_index.proofs.index.NameIndex.settle.Goals as goal

pub invariant_of-self : goal.invariant_of-self
invariant_of-self c =
    indexed_by_table _ _ _ c.self.invariant.apart c.self.invariant.few
    (subst (λ (names : List (List ℕ)). IsTableOf names c.in_ok-self-inside.field-0) c.deref.ensures.value c.in_ok-self-inside.ensures) c.clear.ensures.empty
