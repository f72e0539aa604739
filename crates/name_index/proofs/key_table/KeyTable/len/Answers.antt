use Rattle.std.proofs.Common.{arith}
use Rattle.name_index.proofs.Buckets.{length-entries_of}
use Rattle.name_index.proofs.key_table.KeyTable.len.Goals as goal

pub returns : goal.returns
returns c = rw (← c.self.view_is) (omega (arith, c.len.ensures, length-entries_of c.self.inside.keys.items c.self.inside.numbers.items c.self.invariant.numbered))
