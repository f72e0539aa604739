use Rattle.std.proofs.Common.{◌≡◌, ◌<◌, ℕ, get_or, false, []}
use Rattle.std.specs.Str.{bytes_eq}
use Rattle.frozen.proofs.frozen_graph.Frozen.find.Given as goal

abbrev pub invariant-loop-account : goal.invariant-loop-account
invariant-loop-account l = (k : ℕ) → k < l.account → bytes_eq (get_or l.self.names k []) l.name ≡ false
