use Rattle.std.proofs.Common.{sym, ◌∙◌, length}
use Rattle.text_lines.proofs.Stepping.{faulty}
use Rattle.claim_lines.specs.Claim.{claim_form}
use Rattle.claim_lines.specs.Drafts.{IsClaimDraft}
use Rattle.claim_lines.proofs.Saying.{form-none, form-pass, form-full, form-flow, form-other}
use Rattle.claim_lines.proofs.drafts.ClaimDraft.read_form.Goals as goal

pub returns-in_err-keyword : goal.returns-in_err-keyword
returns-in_err-keyword c = λ k is.
    let none = c.in_err-keyword.ensures.word in
    faulty (IsClaimDraft (length c.args.names.now)) _ c.from_residual.result (claim_form c.args.names.now k c.args.words.now) c.in_err-keyword.field-0.0 c.from_residual.ensures.1
    (rw none.1 (form-none _ k _ none.0))

pub returns-then-is_same : goal.returns-then-is_same
returns-then-is_same c = λ k is. rw (form-pass _ k _ _ _ c.in_ok-keyword.ensures.word (sym c.is_same.ensures ∙ c.if-is_same.true)) (c.read_node.ensures k is)

pub returns-then-is_same-2 : goal.returns-then-is_same-2
returns-then-is_same-2 c = λ k is.
    rw (form-full _ k _ _ _ c.in_ok-keyword.ensures.word (sym c.is_same.ensures ∙ c.if-is_same.false) (sym c.is_same-2.ensures ∙ c.if-is_same-2.true)) (c.read_node-then-is_same-2.ensures k is)

pub returns-then-is_same-3 : goal.returns-then-is_same-3
returns-then-is_same-3 c = λ k is.
    rw (form-flow _ k _ _ _ c.in_ok-keyword.ensures.word (sym c.is_same.ensures ∙ c.if-is_same.false) (sym c.is_same-2.ensures ∙ c.if-is_same-2.false) (sym c.is_same-3.ensures ∙ c.if-is_same-3.true)) (c.read_flow.ensures k is)

pub returns : goal.returns
returns c = λ k is.
    form-other _ k _ _ _ c.in_ok-keyword.ensures.word (sym c.is_same.ensures ∙ c.if-is_same.false) (sym c.is_same-2.ensures ∙ c.if-is_same-2.false) (sym c.is_same-3.ensures ∙ c.if-is_same-3.false)
