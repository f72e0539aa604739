use Rattle.std.proofs.Common.{◌∙◌, sym}
use Rattle.frozen.proofs.Summing.{sum_of_degrees}
use Rattle.frozen.proofs.frozen_graph.Frozen.certs.Goals as goal

pub returns-clause-sum : goal.returns-clause-sum
returns-clause-sum c = rw (← c.self.view_is) (c.self.invariant.2 ∙ sym (sum_of_degrees _ c.self.invariant.0.parts c.self.invariant.0.full))
