use Rattle.std.proofs.Common.{refl}
use Rattle.conversation.proofs.Bytes.{reads_none}
use Rattle.conversation.proofs.saying.hear.Goals as goal

pub reads-init : goal.reads-init
reads-init g c = record { reads = reads_none _ _; quiet = (refl, refl) }
