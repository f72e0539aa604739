use Rattle.request_cases.proofs.times_whole.Goals as goal

pub loop-init : goal.loop-init
loop-init c = c.new-progress.ensures _

pub loop-preserved : goal.loop-preserved
loop-preserved c = c.restart.ensures _
