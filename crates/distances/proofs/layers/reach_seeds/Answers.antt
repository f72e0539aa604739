use Rattle.std.proofs.Common.{◌≡◌, ◌∙◌, sym, true, false}
use Rattle.distances.proofs.Reaching.{IsSeedAt, reaches_none, reaches_same, reaches_next}
use Rattle.distances.proofs.layers.reach_seeds.Goals.{then-is_seed, else-is_seed}
use Rattle.distances.proofs.layers.reach_seeds.Goals as goal

pub loop-number-preserved : goal.loop-number-preserved
loop-number-preserved g c =
    let loop = c.loop-number in
    let graph = g.G.CertGraph.certificates c.args.graph.now in
    elim c.if-is_seed.branch [
      | then-is_seed w ↦
          let seed : graph.is_seed loop.number ≡ true = sym c.is_seed.ensures ∙ w.if-is_seed.true in
          rw (w.out-is, w.queue-is)
          (record {
            reached = reaches_next (IsSeedAt graph) loop.number loop.invariant.reached (reaches_same w.reach.ensures.reached (λ b same. (same, seed)) (λ b among. among.0));
            room = w.reach.ensures.room;
            reserved = w.reach.ensures.reserved ∙ loop.invariant.reserved;
          })
      | else-is_seed w ↦
          let none : graph.is_seed loop.number ≡ false = sym c.is_seed.ensures ∙ w.if-is_seed.false in
          rw (w.out-is, w.queue-is)
          (record {
            reached = reaches_next (IsSeedAt graph) loop.number loop.invariant.reached
                (reaches_none (IsSeedAt graph loop.number) c.args.capacity loop.out loop.queue.items (λ b among. let seed = among.1 in absurd (cc)));
            room = loop.invariant.room;
            reserved = loop.invariant.reserved;
          })
    ]
