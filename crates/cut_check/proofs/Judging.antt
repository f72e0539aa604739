-- A proof's figures tell its cut.
use Rattle.std.proofs.Common.{ℕ, ◌≡◌, ◌==◌, List, Option, length, sym, subst, ◌∙◌, inl, inr, if◌then◌else◌}
use Rattle.std.proofs.lemmas.Bool.{cases_eq, cond-true, cond-false, eq-eqb, ne_eqb}
use Rattle.trust_types.specs.declared.levels.Level.{Level}
use Rattle.trust_types.specs.declared.accounts.Node.TheVariants.{Root}
use Rattle.trust_types.specs.Flow.{Flow, units_out}
use Rattle.cut_check.specs.declared.verdicts.Verdict.{Verdict}
use Rattle.cut_check.specs.declared.verdicts.Verdict.TheVariants.{NoMatch, Greatest}
use Rattle.cut_check.specs.Verdict.{KeepsRules, IsVerdict}
use Rattle.trust_types.specs.declared.flows.Side.{Side}
use Rattle.trust_types.specs.declared.accounts.Node.{Node}
use Rattle.trust_types.specs.Layout.{accounts, row_certificates}
use Rattle.trust_types.specs.Graph.{Certificates}
use Rattle.trust_types.specs.Capacity.{cap_by}
use Rattle.trust_types.specs.Cut.{Sides, value}
use Rattle.trust_types.specs.Lines.{sides_of}
use Rattle.cut_check.specs.declared.proofs.Proof.{Proof}
use Rattle.cut_check.specs.declared.checks.RootFigures.{RootFigures}
use Rattle.cut_check.specs.Rules.{EndsInside}
use Rattle.cut_check.specs.inner.Searches.{FindsPair}
use Rattle.cut_check.specs.Sides.{side_by}
use Rattle.cut_check.specs.inner.Figures.{AreFigures}

pub found_of_cut : {p : Proof} {root : RootFigures} {ins outs : List ℕ} {at : List Side} {caps : List ℕ} → AreFigures p root ins outs at caps →
    (found : Option (Node × ℕ)) → FindsPair (accounts p.graph) (EndsInside (row_certificates p.graph) p.level (side_by root.side at)) found →
    FindsPair (accounts p.graph) (EndsInside (row_certificates p.graph) p.level (sides_of p.pass.items p.full.items)) found
found_of_cut {p = p} figures found finds =
    subst (λ (side : Sides). FindsPair (accounts p.graph) (EndsInside (row_certificates p.graph) p.level side) found) (λ i x. figures.sides x i) finds

pub value_of_cut : {p : Proof} {root : RootFigures} {ins outs : List ℕ} {at : List Side} {caps : List ℕ} → AreFigures p root ins outs at caps →
    (worth : ℕ) → ((g : Certificates) → g.accounts ≡ length at → worth ≡ value g (cap_by root.capacity caps) (side_by root.side at)) →
    worth ≡ value (row_certificates p.graph) (cap_by root.capacity caps) (sides_of p.pass.items p.full.items)
value_of_cut {p = p} {root = root} {caps = caps} figures worth is =
    subst (λ (side : Sides). worth ≡ value (row_certificates p.graph) (cap_by root.capacity caps) side) (λ i x. figures.sides x i)
    (is (row_certificates p.graph) (sym figures.each))

pub compared : {g : Certificates} {level : Level} {f : Flow} {side : Sides} (capacity : Node → ℕ) → KeepsRules g level capacity f side → (sent worth : ℕ) →
    sent ≡ units_out g.accounts f Root → worth ≡ value g capacity side →
    IsVerdict g level capacity f side (if sent == worth then Greatest sent else NoMatch sent worth)
compared {g = g} {level = level} {f = f} {side = side} capacity kept sent worth sends values =
    let Fits : Verdict → Type 0 = IsVerdict g level capacity f side in
    elim (cases_eq sent worth) [
      | inl same ↦ subst Fits (sym (cond-true (sent == worth) (Greatest sent) (NoMatch sent worth) (eq-eqb sent worth same))) (kept, sends, same ∙ values)
      | inr differs ↦
          subst Fits (sym (cond-false (sent == worth) (Greatest sent) (NoMatch sent worth) (ne_eqb sent worth differs))) (kept, sends, values, differs)
    ]
