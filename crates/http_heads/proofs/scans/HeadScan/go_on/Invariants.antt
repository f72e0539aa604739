use Rattle.std.proofs.Common.{◌-◌, ◌≤◌}
use Rattle.http_heads.specs.Scans.{IsScanOf}
use Rattle.http_heads.proofs.scans.HeadScan.go_on.Given as goal

abbrev pub invariant-loop-self : goal.invariant-loop-self
invariant-loop-self l = IsScanOf l.self l.bytes × (l.initial.self.seen ≤ l.self.seen)

abbrev pub decreases-loop-self : goal.decreases-loop-self
decreases-loop-self l = l.most - l.self.seen
