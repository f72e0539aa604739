use Rattle.std.proofs.Common.{arith, ◌∙◌, ◌≡◌, ◌+◌, ◌-◌, ◌^◌}
use Rattle.std.specs.Prelude.{min}
use Rattle.distances.proofs.Layered.{first_layer, layer_after, layer_within, capacities_complete}
use Rattle.distances.proofs.layers.search.Goals as goal

pub loop-start-init : goal.loop-start-init
loop-start-init g c = record {
  depth = 1;
  some = omega arith;
  counted = omega arith;
  layered = first_layer c.args.level c.requires.unseen (rw c.requires.empty at c.reach_seeds.ensures.reached) c.at.ensures.entry;
  room = c.reach_seeds.ensures.room;
  reserved = c.reach_seeds.ensures.reserved;
}

pub expand_layer-requires-clause-accounts : goal.expand_layer-requires-clause-accounts
expand_layer-requires-clause-accounts g c = λ i from before. layer_within c.loop-start.invariant.layered i from (omega (arith, c.loop-start.queue.ok.0))

pub loop-start-preserved : goal.loop-start-preserved
loop-start-preserved g c =
    let loop = c.loop-start in
    let at = c.at-in-loop-start.ensures in
    let counted : c.saturating_add-distance.result ≡ min (loop.invariant.depth + 1) (2 ^ 32 - 1) = omega (arith, loop.invariant.counted, c.saturating_add-distance.ensures) in
    record {
      depth = loop.invariant.depth + 1;
      some = omega arith;
      counted = counted;
      layered = layer_after loop.invariant.layered (omega (arith, at.table.entries.few)) loop.invariant.some c.expand_layer.ensures.reached (omega (arith, loop.queue.ok.0)) counted at.entry;
      room = c.expand_layer.ensures.room;
      reserved = c.expand_layer.ensures.reserved ∙ loop.invariant.reserved;
    }

pub returns-clause-capacities : goal.returns-clause-capacities
returns-clause-capacities g c = capacities_complete c.loop-start.invariant.layered c.loop-start.invariant.some (omega (arith, c.loop-start.queue.ok.0))
