use Rattle.std.proofs.Common.{ap, sym, ◌∙◌, ◌∷◌, ◌++◌, [], refl, Ok, length, subst, ◌<◌}
use Rattle.text_lines.specs.declared.faults.TextKind.TheVariants.{Twice}
use Rattle.text_lines.specs.Steps.{◌>>=◌, fault_if}
use Rattle.text_lines.proofs.Stepping.{refused, passed}
use Rattle.trust_types.specs.Kept.{accounts, is_seed}
use Rattle.site_lines.specs.Site.{seed, known_account, seed_line}
use Rattle.site_lines.specs.Drafts.{IsSiteDraft}
use Rattle.site_lines.proofs.Drafting.{draft-seed}
use Rattle.site_lines.proofs.drafts.SiteDraft.seed.Goals as goal

pub returns-in_err-account : goal.returns-in_err-account
unfolding seed_line
returns-in_err-account c = λ k is.
    refused (λ d x. IsSiteDraft d (k ++ x ∷ [])) _ c.from_residual.result (known_account (accounts k) c.args.words.now) (λ a. fault_if (is_seed k a) Twice >>= λ _. Ok (seed a)) c.in_err-account.field-0.0
    c.from_residual.ensures.1 (ap (λ names. known_account names c.args.words.now) (sym is.named) ∙ sym c.in_err-account.ensures.account)

pub returns-in_err-fault_if : goal.returns-in_err-fault_if
unfolding seed_line
returns-in_err-fault_if c = λ k is.
    let a = c.in_ok-account.account in
    passed (λ d x. IsSiteDraft d (k ++ x ∷ [])) _ c.from_residual-in_err-fault_if.result (known_account (accounts k) c.args.words.now) (λ a. fault_if (is_seed k a) Twice >>= λ _. Ok (seed a)) a
    (ap (λ names. known_account names c.args.words.now) (sym is.named) ∙ sym c.in_ok-account.ensures.account)
    (refused (λ d x. IsSiteDraft d (k ++ x ∷ [])) _ c.from_residual-in_err-fault_if.result (fault_if (is_seed k a) Twice) (λ _. Ok (seed a)) c.in_err-fault_if.field-0.0
    c.from_residual-in_err-fault_if.ensures.1 (ap (λ test. fault_if test Twice) (sym (is.seeded a) ∙ sym c.mark.ensures.was) ∙ sym c.in_err-fault_if.ensures))

pub returns : goal.returns
unfolding seed_line
returns c = λ k is.
    let a = c.in_ok-account.account in (
      seed a,
      ap (λ r. r >>= λ a. fault_if (is_seed k a) Twice >>= λ _. Ok (seed a)) (ap (λ names. known_account names c.args.words.now) (sym is.named) ∙ sym c.in_ok-account.ensures.account)
          ∙ ap (λ r. r >>= λ _. Ok (seed a)) (ap (λ test. fault_if test Twice) (sym (is.seeded a) ∙ sym c.mark.ensures.was) ∙ sym c.in_ok-fault_if.ensures),
      draft-seed c.args.self.now _ k a is (subst (λ n. a < n) (ap length is.named) c.in_ok-account.ensures.among) refl c.mark.ensures.is refl refl,
    )
