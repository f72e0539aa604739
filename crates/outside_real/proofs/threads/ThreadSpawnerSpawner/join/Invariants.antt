use Rattle.std.proofs.Common.{◌≡◌, vec_len}
use Rattle.outside_real.proofs.threads.ThreadSpawnerSpawner.join.Given as goal

abbrev pub invariant-loop-thread : goal.invariant-loop-thread
invariant-loop-thread g l = l.self-inside.faults ≡ l.initial.self-inside.faults

abbrev pub decreases-loop-thread : goal.decreases-loop-thread
decreases-loop-thread g l = vec_len l.self-inside.running
