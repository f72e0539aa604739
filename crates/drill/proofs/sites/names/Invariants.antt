use Rattle.std.proofs.Common.{◌≡◌}
use Rattle.drill.specs.Drill.{names}
use Rattle.drill.proofs.sites.names.Given as goal

abbrev pub invariant-loop-account : goal.invariant-loop-account
invariant-loop-account l = l.names.items ≡ names l.account
