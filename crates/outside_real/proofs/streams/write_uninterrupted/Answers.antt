use Rattle.outside.proofs.Kept.{Keeps-same, Keeps-then, Appends-behind}
use Rattle.outside_real.proofs.streams.write_uninterrupted.Goals as goal

pub loop-init : goal.loop-init
loop-init g c = Keeps-same _

pub loop-preserved : goal.loop-preserved
loop-preserved g c = Keeps-then _ _ _ c.loop.invariant c.in-Err.ensures.bytes

pub returns-in-Ok-clause-bytes : goal.returns-in-Ok-clause-bytes
returns-in-Ok-clause-bytes g c = Appends-behind _ _ _ _ c.loop.invariant c.in-Ok.ensures.bytes
