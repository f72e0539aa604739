use Rattle.std.proofs.Common.{take, length, ◌≤◌}
use Rattle.cert_log.specs.inner.Levels.{AreLevels}
use Rattle.cert_log.proofs.levels.levels_of.Given as goal

abbrev pub invariant-loop-cert : goal.invariant-loop-cert
invariant-loop-cert l = length l.certs ≤ 2000000 → AreLevels l.levels (take l.cert-index l.certs)
