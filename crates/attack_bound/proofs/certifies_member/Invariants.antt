use Rattle.std.proofs.Common.{ℕ, ◌<◌, ◌≤◌, ◌≡◌, false}
use Rattle.trust_types.specs.Levels.{rank}
use Rattle.attack_bound.specs.Attack.{members_by}
use Rattle.attack_bound.proofs.certifies_member.Given as goal

abbrev pub invariant-loop-i : goal.invariant-loop-i
invariant-loop-i g l =
    (k : ℕ) → k < l.i → rank l.level ≤ rank (g.G.CertGraph.cert_of l.graph l.account k).level →
    members_by l.members (g.G.CertGraph.cert_of l.graph l.account k).to ≡ false
