use Rattle.trust_types.specs.Capacity.{cap_by}
use Rattle.cut_check.specs.Sides.{side_by}
use Rattle.cut_check.proofs.Values.{IsValueSoFar}
use Rattle.cut_check.proofs.sides.cut_value.Given as goal

abbrev pub invariant-loop-at : goal.invariant-loop-at
invariant-loop-at l = IsValueSoFar (cap_by l.root_capacity l.capacities) (side_by l.fn.root l.sides) l.at l.value
