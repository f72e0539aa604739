use Rattle.std.proofs.Common.{arith}
use Rattle.std.proofs.lemmas.List.{length-map}
use Rattle.cert_book.specs.inner.Slots.{slot_part}
use Rattle.cert_book.proofs.Sharing.{blocks_le}
use Rattle.cert_book.proofs.blocks.Blocks.share.Goals as goal

pub returns-clause-few : goal.returns-clause-few
returns-clause-few g c = rw (← c.self.view_is) (omega (arith, length-map c.self.inside.slots.items slot_part, blocks_le _ _ _ c.self.invariant.0))
