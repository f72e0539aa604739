use Rattle.std.proofs.Common.{Bool, false, ◌≡◌, ◌∙◌, sym, subst, ap}
use Rattle.std.specs.Prelude.{Some, None}
use Rattle.split_flow.specs.Split.{SplitNode, InHalf, OutHalf}
use Rattle.split_flow.specs.Moved.{side_of_halves}
use Rattle.split_graph.specs.Numbers.{node_number}
use Rattle.split_graph.specs.Network.{Room}
use Rattle.flow_engine.specs.Solved.{unreached}
use Rattle.flow_engine.specs.inner.Reached.{is_reached, layer_of}
use Rattle.flow_engine.specs.inner.Held.{IsReserved}
use Rattle.flow_engine.proofs.Growing.{ltb_no}
use Rattle.flow_engine.proofs.solving.Workspace.reserve.Goals as goal

pub invariant_of-result : goal.invariant_of-result
invariant_of-result c = (
  subst (λ (r : Room). IsReserved r c.in_ok-reserve-2.field-0) (sym c.in_ok-reserve.ensures.room) c.in_ok-reserve-2.ensures.reserved,
  λ f is. let none : None ≡ Some f = sym c.in_ok-reserve.ensures.empty ∙ is in absurd (cc),
)

pub returns-clause-unreached : goal.returns-clause-unreached
returns-clause-unreached c x =
    let s = c.in_ok-reserve-2.field-0.search in
    let seen : SplitNode → Bool = λ u. is_reached s (node_number u) in
    let first : seen (InHalf x) ≡ false = ltb_no (layer_of s (node_number (InHalf x))) unreached (c.in_ok-reserve-2.ensures.none (node_number (InHalf x))) in
    ap (λ (p : Bool). side_of_halves p (seen (OutHalf x))) first
