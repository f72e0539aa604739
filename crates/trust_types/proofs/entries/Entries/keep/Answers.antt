use Rattle.trust_types.specs.Tables.{AreEntries}
use Rattle.trust_types.proofs.Padding.{written_over}
use Rattle.trust_types.proofs.entries.Entries.keep.Goals as goal

pub invariant_of-result : goal.invariant_of-result
invariant_of-result c = rw c.copy_from_slice.ensures.after (written_over AreEntries 16 c.args.kept.now c.requires)
