use Rattle.std.proofs.Common.{sym, ◌∙◌, ◌∷◌, ◌++◌, []}
use Rattle.text_lines.proofs.Stepping.{faulty}
use Rattle.site_lines.specs.Drafts.{IsSiteDraft}
use Rattle.site_lines.specs.Site.{form}
use Rattle.site_lines.proofs.Saying.{form-none, form-account, form-seed, form-cert, form-other}
use Rattle.site_lines.proofs.drafts.SiteDraft.form.Goals as goal

pub returns-in_err-keyword : goal.returns-in_err-keyword
returns-in_err-keyword c = λ k is.
    let none = c.in_err-keyword.ensures.word in
    faulty (λ d x. IsSiteDraft d (k ++ x ∷ [])) _ c.from_residual.result (form c.args.table.now k c.args.words.now) c.in_err-keyword.field-0.0 c.from_residual.ensures.1 (rw none.1 (form-none c.args.table.now k _ none.0))

pub returns-then-is_same : goal.returns-then-is_same
returns-then-is_same c = λ k is. rw (form-account c.args.table.now k _ _ _ c.in_ok-keyword.ensures.word (sym c.is_same.ensures ∙ c.if-is_same.true)) (c.account.ensures k is)

pub returns-then-is_same-2 : goal.returns-then-is_same-2
returns-then-is_same-2 c = λ k is.
    rw (form-seed c.args.table.now k _ _ _ c.in_ok-keyword.ensures.word (sym c.is_same.ensures ∙ c.if-is_same.false) (sym c.is_same-2.ensures ∙ c.if-is_same-2.true)) (c.seed.ensures k is)

pub returns-then-is_same-3 : goal.returns-then-is_same-3
returns-then-is_same-3 c = λ k is.
    rw (form-cert c.args.table.now k _ _ _ c.in_ok-keyword.ensures.word (sym c.is_same.ensures ∙ c.if-is_same.false) (sym c.is_same-2.ensures ∙ c.if-is_same-2.false) (sym c.is_same-3.ensures ∙ c.if-is_same-3.true)) (c.cert.ensures k is)

pub returns : goal.returns
returns c = λ k is.
    form-other c.args.table.now k _ _ _ c.in_ok-keyword.ensures.word (sym c.is_same.ensures ∙ c.if-is_same.false) (sym c.is_same-2.ensures ∙ c.if-is_same-2.false) (sym c.is_same-3.ensures ∙ c.if-is_same-3.false)
