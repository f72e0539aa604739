use Rattle.std.proofs.Common.{◌≡◌, take, if◌then◌else◌}
use Rattle.std.specs.List.{list_any}
use Rattle.trust_types.specs.declared.accounts.Node.{Node}
use Rattle.trust_types.specs.Lines.{same_node}
use Rattle.cut_check.specs.Sides.{side_by}
use Rattle.cut_check.proofs.sides.put_all.Given as goal

abbrev pub invariant-loop-node : goal.invariant-loop-node
invariant-loop-node l =
    (x : Node) → side_by l.root l.sides x
    ≡ (if list_any (same_node x) (take l.node-index l.nodes) then l.side else side_by l.initial.root l.initial.sides x)
