use Rattle.std.proofs.Common.{ap, ◌∙◌}
use Rattle.name_index.specs.inner.KeyTables.{entries_of}
use Rattle.name_index.proofs.Listed.{zipped, told}
use Rattle.name_index.proofs.key_table.KeyTable.entries.Goals as goal

pub returns : goal.returns
returns c = told c.entries_in.result
    (λ entries is.
    is ∙ zipped c.deref.result.now c.deref-2.result.now ∙ ap (λ keys. entries_of keys c.deref-2.result.now) c.deref.ensures.value
    ∙ ap (entries_of c.self.inside.keys.items) c.deref-2.ensures.value ∙ c.self.view_is)
    c.entries_in.ensures
