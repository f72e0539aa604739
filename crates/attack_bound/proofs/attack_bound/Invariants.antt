use Rattle.std.proofs.Common.{ℕ, ◌≡◌, ◌≤◌, ◌*◌, ◌^◌}
use Rattle.trust_types.specs.Capacity.{cap_by}
use Rattle.trust_types.specs.Sum.{sum_below}
use Rattle.attack_bound.specs.Attack.{members_by}
use Rattle.attack_bound.specs.inner.Added.{added}
use Rattle.attack_bound.proofs.attack_bound.Given as goal

abbrev pub invariant-loop-number : goal.invariant-loop-number
invariant-loop-number g l = record {
  sum : (root : ℕ) → l.bound ≡
      sum_below l.number (added (g.G.CertGraph.certificates l.graph) l.level (cap_by root l.capacities) (members_by l.members));
  few : l.bound ≤ l.number * 2 ^ 32;
}
