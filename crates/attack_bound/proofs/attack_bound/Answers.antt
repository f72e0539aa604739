use Rattle.std.proofs.Common.{ℕ, ◌≡◌, ◌+◌, suc, ap, arith}
use Rattle.trust_types.specs.Capacity.{cap_by}
use Rattle.trust_types.specs.Sum.{sum_below}
use Rattle.attack_bound.specs.Attack.{members_by}
use Rattle.attack_bound.specs.inner.Added.{added}
use Rattle.attack_bound.proofs.attack_bound.Goals as goal

pub loop-number-preserved : goal.loop-number-preserved
loop-number-preserved g c = record {
  sum = λ root.
      let adds : ℕ → ℕ = added (g.G.CertGraph.certificates c.args.graph.now) c.args.level (cap_by root c.args.capacities.now) (members_by c.args.members.now) in
      let next : sum_below (c.loop-number.number + 1) adds ≡ sum_below c.loop-number.number adds + adds c.loop-number.number =
      let same : c.loop-number.number + 1 ≡ suc c.loop-number.number = omega arith in ap (λ (i : ℕ). sum_below i adds) same in
      omega (arith, c.loop-number.invariant.sum root, c.adds.ensures root, next);
  few = omega (arith, c.loop-number.invariant.few);
}

pub returns : goal.returns
returns g c =
    let last : c.loop-number.number ≡ (g.G.CertGraph.certificates c.args.graph.now).accounts = omega arith in
    λ root. rw last at (c.loop-number.invariant.sum root)
