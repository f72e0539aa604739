use Rattle.std.proofs.Common.{◌≡◌, ℕ, true, false, sym, ap, ◌∙◌, length, refl, set, Ok}
use Rattle.trust_types.specs.declared.accounts.Node.{Node}
use Rattle.text_lines.specs.declared.faults.TextKind.TheVariants.{Twice}
use Rattle.text_lines.specs.Steps.{◌>>=◌, fault_if}
use Rattle.text_lines.proofs.Stepping.{refused, passed, fault_if-ok}
use Rattle.claim_lines.specs.Claim.{node_in, node_line, is_placed, with_node}
use Rattle.claim_lines.specs.Drafts.{IsClaimDraft}
use Rattle.claim_lines.proofs.Drafting.{is_marked, draft-pass, draft-full}
use Rattle.claim_lines.proofs.drafts.ClaimDraft.read_node.Goals as goal

pub returns-in_err-node : goal.returns-in_err-node
unfolding node_line
returns-in_err-node c = λ k is.
    refused (IsClaimDraft (length c.args.names.now)) _ c.from_residual.result (node_in c.args.names.now c.args.words.now)
    (λ x. fault_if (is_placed k x) Twice >>= λ _. Ok (with_node c.args.passes k x)) c.in_err-node.field-0.0 c.from_residual.ensures.1 (sym c.in_err-node.ensures.node)

pub returns-in_err-fault_if : goal.returns-in_err-fault_if
unfolding node_line
returns-in_err-fault_if c = λ k is.
    let x : Node = c.in_ok-node.node in
    let marked : is_placed k x ≡ c.index.result.now = is_marked _ c.args.self.now k x _ _ is c.in_ok-node.ensures.among c.place_of-place.ensures c.index.ensures in
    passed (IsClaimDraft (length c.args.names.now)) _ c.from_residual-in_err-fault_if.result (node_in c.args.names.now c.args.words.now)
    (λ x. fault_if (is_placed k x) Twice >>= λ _. Ok (with_node c.args.passes k x)) x (sym c.in_ok-node.ensures.node)
    (refused (IsClaimDraft (length c.args.names.now)) _ c.from_residual-in_err-fault_if.result (fault_if (is_placed k x) Twice) (λ _. Ok (with_node c.args.passes k x))
    c.in_err-fault_if.field-0.0 c.from_residual-in_err-fault_if.ensures.1 (ap (λ test. fault_if test Twice) marked ∙ sym c.in_err-fault_if.ensures))

pub returns-then-passes : goal.returns-then-passes
unfolding node_line
returns-then-passes c = λ k is.
    let x : Node = c.in_ok-node.node in
    let marked : is_placed k x ≡ c.index.result.now = is_marked _ c.args.self.now k x _ _ is c.in_ok-node.ensures.among c.place_of-place.ensures c.index.ensures in
    let new : fault_if (is_placed k x) Twice ≡ Ok _ = ap (λ test. fault_if test Twice) marked ∙ sym c.in_ok-fault_if.ensures in (
      with_node true k x,
      ap (λ r. r >>= λ x. fault_if (is_placed k x) Twice >>= λ _. Ok (with_node c.args.passes k x)) (sym c.in_ok-node.ensures.node) ∙ ap (λ r. r >>= λ _. Ok (with_node c.args.passes k x)) new
          ∙ ap (λ passes. Ok (with_node passes k x)) c.if-passes.true,
      draft-pass _ c.args.self.now _ k x is c.in_ok-node.ensures.among (fault_if-ok _ Twice _ new) refl (ap (λ (p : ℕ). set c.args.self.now.placed.items p true) c.place_of-place.ensures) refl
          c.in_ok-push.ensures.items refl,
    )

pub returns : goal.returns
unfolding node_line
returns c = λ k is.
    let x : Node = c.in_ok-node.node in
    let marked : is_placed k x ≡ c.index.result.now = is_marked _ c.args.self.now k x _ _ is c.in_ok-node.ensures.among c.place_of-place.ensures c.index.ensures in
    let new : fault_if (is_placed k x) Twice ≡ Ok _ = ap (λ test. fault_if test Twice) marked ∙ sym c.in_ok-fault_if.ensures in (
      with_node false k x,
      ap (λ r. r >>= λ x. fault_if (is_placed k x) Twice >>= λ _. Ok (with_node c.args.passes k x)) (sym c.in_ok-node.ensures.node) ∙ ap (λ r. r >>= λ _. Ok (with_node c.args.passes k x)) new
          ∙ ap (λ passes. Ok (with_node passes k x)) c.if-passes.false,
      draft-full _ c.args.self.now _ k x is c.in_ok-node.ensures.among (fault_if-ok _ Twice _ new) refl (ap (λ (p : ℕ). set c.args.self.now.placed.items p true) c.place_of-place.ensures) refl
          c.in_ok-push-2.ensures.items refl,
    )
