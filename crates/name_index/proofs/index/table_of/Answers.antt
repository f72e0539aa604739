use Rattle.std.proofs.lemmas.Result.{IfOk-weaker}
use Rattle.name_index.proofs.Indexing.{table_permuted}
use Rattle.name_index.proofs.index.table_of.Goals as goal

pub returns : goal.returns
returns c = IfOk-weaker c.of.result _ _ (λ table moved. table_permuted _ _ table moved c.in_ok-entries_of.ensures.whole) c.of.ensures
