-- Verdicts on proofs, and what the best of them says.
use Rattle.std.specs.Prelude.{ℕ, ◌≡◌}
use Rattle.trust_types.specs.declared.accounts.Node.{Node}
use Rattle.trust_types.specs.Layout.{accounts, row_certificates}
use Rattle.trust_types.specs.Capacity.{AreCapacities}
use Rattle.trust_types.specs.Flow.{total}
use Rattle.trust_types.specs.Cut.{IsCut, value}
use Rattle.trust_types.specs.Roster.{IsGreatest, ServesConduits}
use Rattle.trust_types.specs.Lines.{flow_of, sides_of}
use Rattle.cut_check.specs.declared.proofs.Proof.{Proof}
use Rattle.cut_check.specs.declared.verdicts.Verdict.{Verdict}
use Rattle.cut_check.specs.Verdict.{IsVerdict}

-- The verdict on what a proof says of its graph, whose nodes have the capacities of its table.
abbrev pub IsVerdictOn : Proof → Verdict → Type 0
IsVerdictOn p verdict =
    (cap : Node → ℕ) × AreCapacities (row_certificates p.graph) p.level p.caps cap
    × IsVerdict (row_certificates p.graph) p.level cap (flow_of p.flow.items) (sides_of p.pass.items p.full.items) verdict

-- The proof's flow serves n accounts, with served conduits, and no feasible flow serves more, as its cut of value n
-- shows.
pub record ServesMost (p : Proof) (n : ℕ) : Type 0 where
  pub capacity : Node → ℕ
  pub capacities : AreCapacities (row_certificates p.graph) p.level p.caps capacity
  pub greatest : IsGreatest (row_certificates p.graph) p.level capacity (flow_of p.flow.items)
  pub total : total (accounts p.graph) (flow_of p.flow.items) ≡ n
  pub conduits : ServesConduits (accounts p.graph) (flow_of p.flow.items)
  pub cut : IsCut (row_certificates p.graph) p.level (sides_of p.pass.items p.full.items)
  pub value : value (row_certificates p.graph) capacity (sides_of p.pass.items p.full.items) ≡ n
