-- What a check works out of a proof before it judges it. The crate's own functions alone speak of it.
use Rattle.std.specs.Prelude.{ℕ, ◌≡◌, List, length}
use Rattle.trust_types.specs.declared.accounts.Node.{Node}
use Rattle.trust_types.specs.declared.accounts.Node.TheVariants.{Root}
use Rattle.trust_types.specs.declared.flows.Side.{Side}
use Rattle.trust_types.specs.Layout.{accounts, row_certificates}
use Rattle.trust_types.specs.Capacity.{AreCapacities, cap_by}
use Rattle.trust_types.specs.Flow.{units_out}
use Rattle.trust_types.specs.Lines.{flow_of, sides_of}
use Rattle.cut_check.specs.declared.proofs.Proof.{Proof}
use Rattle.cut_check.specs.declared.checks.RootFigures.{RootFigures}
use Rattle.cut_check.specs.Sides.{side_by}
use Rattle.cut_check.specs.inner.Sums.{AreSums}

-- The root's figures and lists of the accounts': the capacities of the nodes, the sums of the flow, the sides of the cut.
pub record AreFigures (p : Proof) (root : RootFigures) (ins outs : List ℕ) (at : List Side) (caps : List ℕ) :
    Type 0 where
  pub capacities : AreCapacities (row_certificates p.graph) p.level p.caps (cap_by root.capacity caps)
  pub all : length caps ≡ accounts p.graph
  pub sums : AreSums (accounts p.graph) (flow_of p.flow.items) ins outs
  pub both : length outs ≡ accounts p.graph
  pub sent : root.sent ≡ units_out (accounts p.graph) (flow_of p.flow.items) Root
  pub sides : (x : Node) → side_by root.side at x ≡ sides_of p.pass.items p.full.items x
  pub each : length at ≡ accounts p.graph
