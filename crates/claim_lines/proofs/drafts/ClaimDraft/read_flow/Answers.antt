use Rattle.std.proofs.Common.{◌≡◌, sym, ap, ◌∙◌, ◌∷◌, ◌++◌, [], length, refl, Some, Ok}
use Rattle.std.specs.List.{list_any}
use Rattle.trust_types.specs.declared.flows.FlowLine.{FlowLine}
use Rattle.trust_types.specs.Lines.{place}
use Rattle.pair_map.specs.Pairs.{IsSet}
use Rattle.text_lines.specs.declared.faults.TextKind.TheVariants.{Twice}
use Rattle.text_lines.specs.Steps.{◌>>=◌, fault_if}
use Rattle.text_lines.proofs.Stepping.{refused, passed, fault_if-ok}
use Rattle.claim_lines.specs.Claim.{Claim, flow_in, flow_line, is_of_pair}
use Rattle.claim_lines.specs.Drafts.{IsClaimDraft}
use Rattle.claim_lines.proofs.Drafting.{has_line, draft-flow}
use Rattle.claim_lines.proofs.drafts.ClaimDraft.read_flow.Goals as goal

abbrev with_line : Claim → FlowLine → Claim
with_line k l = record { flow = k.flow ++ l ∷ []; pass = k.pass; full = k.full }

pub returns-in_err-line : goal.returns-in_err-line
unfolding flow_line
returns-in_err-line c = λ k is.
    refused (IsClaimDraft (length c.args.names.now)) _ c.from_residual.result (flow_in c.args.names.now c.args.words.now)
    (λ l. fault_if (list_any (is_of_pair l.from l.to) k.flow) Twice >>= λ _. Ok (with_line k l)) c.in_err-line.field-0.0 c.from_residual.ensures.1 (sym c.in_err-line.ensures.line)

pub returns-in_err-fault_if : goal.returns-in_err-fault_if
unfolding flow_line
returns-in_err-fault_if c = λ k is.
    let l : FlowLine = c.in_ok-line.line in
    let has : c.contains.result ≡ list_any (is_of_pair l.from l.to) k.flow = rw (c.place_of-giver.ensures, c.to.view_is) at c.contains.ensures ∙ has_line _ c.args.self.now k l.from l.to is in
    passed (IsClaimDraft (length c.args.names.now)) _ c.from_residual-in_err-fault_if.result (flow_in c.args.names.now c.args.words.now)
    (λ l. fault_if (list_any (is_of_pair l.from l.to) k.flow) Twice >>= λ _. Ok (with_line k l)) l (sym c.in_ok-line.ensures.line)
    (refused (IsClaimDraft (length c.args.names.now)) _ c.from_residual-in_err-fault_if.result (fault_if (list_any (is_of_pair l.from l.to) k.flow) Twice) (λ _. Ok (with_line k l))
    c.in_err-fault_if.field-0.0 c.from_residual-in_err-fault_if.ensures.1 (ap (λ test. fault_if test Twice) (sym has) ∙ sym c.in_err-fault_if.ensures))

pub returns : goal.returns
unfolding flow_line
returns c = λ k is.
    let l : FlowLine = c.in_ok-line.line in
    let has : c.contains.result ≡ list_any (is_of_pair l.from l.to) k.flow = rw (c.place_of-giver.ensures, c.to.view_is) at c.contains.ensures ∙ has_line _ c.args.self.now k l.from l.to is in
    let new : fault_if (list_any (is_of_pair l.from l.to) k.flow) Twice ≡ Ok _ = ap (λ test. fault_if test Twice) (sym has) ∙ sym c.in_ok-fault_if.ensures in
    let written : IsSet c.args.self.now.units c.insert.new.self (place l.from) l.to (Some l.units) = rw (c.place_of-giver.ensures, c.to.view_is) at c.in_ok-_none.ensures.set in (
      with_line k l,
      ap (λ r. r >>= λ l. fault_if (list_any (is_of_pair l.from l.to) k.flow) Twice >>= λ _. Ok (with_line k l)) (sym c.in_ok-line.ensures.line) ∙ ap (λ r. r >>= λ _. Ok (with_line k l)) new,
      draft-flow _ c.args.self.now _ k l is c.in_ok-line.ensures.among (fault_if-ok _ Twice _ new) written refl refl refl,
    )
