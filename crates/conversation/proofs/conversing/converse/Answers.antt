use Rattle.std.proofs.Common.{length, ◌∙◌, ◌+◌, ℕ, ap}
use Rattle.conversation.proofs.Ending.{begun}
use Rattle.conversation.proofs.conversing.converse.Goals as goal

pub loop-i-init : goal.loop-i-init
loop-i-init g c = record { talking = rw (c.requires.none.0, c.requires.none.1) (begun _ _ _ _ c.requires.legal); cached = c.requires.cached; count = ap length c.requires.none.0 }

pub loop-i-preserved : goal.loop-i-preserved
loop-i-preserved g c = record {
  talking = c.in_default.ensures.goes _ c.loop-i.invariant.talking;
  cached = c.turn.ensures.cached;
  count = c.in_default.ensures.count ∙ ap (λ (n : ℕ). n + 1) c.loop-i.invariant.count;
}

pub turn-requires-clause-site : goal.turn-requires-clause-site
turn-requires-clause-site g c = c.loop-i.invariant.talking.grows.same.site ∙ c.requires.site

pub returns-in-Some-clause-ended : goal.returns-in-Some-clause-ended
returns-in-Some-clause-ended g c = c.in-Some.ensures.goes _ c.loop-i.invariant.talking
