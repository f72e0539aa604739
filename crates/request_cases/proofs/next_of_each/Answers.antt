use Rattle.request_cases.proofs.next_of_each.Goals as goal

pub loop-byte-init : goal.loop-byte-init
loop-byte-init c = c.new-progress.ensures _
