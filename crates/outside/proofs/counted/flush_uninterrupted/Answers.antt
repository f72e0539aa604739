use Rattle.outside.proofs.Kept.{Keeps-same}
use Rattle.outside.proofs.counted.flush_uninterrupted.Goals as goal

pub loop-init : goal.loop-init
loop-init g c = Keeps-same _
