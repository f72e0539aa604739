-- Where all rules hold and the numbers agree, no feasible flow serves more.
use Rattle.std.proofs.Common.{ℕ, ◌≢◌, sym, ◌∙◌, arith}
use Rattle.trust_types.specs.declared.levels.Level.{Level}
use Rattle.trust_types.specs.declared.accounts.Node.{Node}
use Rattle.trust_types.specs.declared.accounts.Node.TheVariants.{Root}
use Rattle.trust_types.specs.declared.flows.Side.TheVariants.{Outside}
use Rattle.trust_types.specs.Graph.{Certificates}
use Rattle.trust_types.specs.Layout.{row_certificates}
use Rattle.trust_types.specs.Flow.{Flow, IsFeasible}
use Rattle.trust_types.specs.Cut.{Sides, IsCut}
use Rattle.trust_types.specs.Lines.{flow_of, sides_of}
use Rattle.trust_types.proofs.Conservation.{total_is_root_units}
use Rattle.trust_types.proofs.CutBound.{total_at_most_cut}
use Rattle.cut_check.specs.declared.proofs.Proof.{Proof}
use Rattle.cut_check.specs.declared.verdicts.Verdict.TheVariants.{Greatest}
use Rattle.cut_check.specs.Verdict.{KeepsRules}
use Rattle.cut_check.specs.Check.{IsVerdictOn, ServesMost}

feasible : {g : Certificates} {level : Level} {capacity : Node → ℕ} {f : Flow} {side : Sides} → KeepsRules g level capacity f side →
    IsFeasible g level capacity f
feasible kept = record {
  edges = kept.edges;
  served = kept.balance;
  root = kept.room.0;
  room = λ x below. (kept.room.1 x below).0;
  unreached = λ x below. (kept.room.1 x below).1;
}

pub serves_most : (p : Proof) → sides_of p.pass.items p.full.items Root ≢ Outside → (n : ℕ) → IsVerdictOn p (Greatest n) → ServesMost p n
serves_most p root n verdict =
    let g : Certificates = row_certificates p.graph in
    let f : Flow = flow_of p.flow.items in
    let side : Sides = sides_of p.pass.items p.full.items in
    let capacity : Node → ℕ = verdict.0 in
    let kept : KeepsRules g p.level capacity f side = verdict.2.0 in
    let fits : IsFeasible g p.level capacity f = feasible kept in
    let cut : IsCut g p.level side = record { root = root; closed = kept.closure } in
    let total = total_is_root_units g p.level capacity f fits in
    record {
      capacity = capacity;
      capacities = verdict.1;
      greatest = record {
        feasible = fits;
        most = λ other also. omega (arith, total_at_most_cut g p.level capacity other side also cut, total, verdict.2.1, verdict.2.2);
      };
      total = total ∙ sym verdict.2.1;
      conduits = kept.service;
      cut = cut;
      value = sym verdict.2.2;
    }
