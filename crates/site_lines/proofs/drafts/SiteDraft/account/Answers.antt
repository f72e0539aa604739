use Rattle.std.proofs.Common.{ap, sym, ◌∙◌, ◌∷◌, ◌++◌, [], refl, Ok}
use Rattle.text_lines.specs.Steps.{◌>>=◌}
use Rattle.text_lines.proofs.Stepping.{refused}
use Rattle.trust_types.specs.Kept.{accounts}
use Rattle.site_lines.specs.Site.{join, new_name, account_line}
use Rattle.site_lines.specs.Drafts.{IsSiteDraft}
use Rattle.site_lines.proofs.Drafting.{draft-join}
use Rattle.site_lines.proofs.drafts.SiteDraft.account.Goals as goal

pub returns-in_err-name : goal.returns-in_err-name
unfolding account_line
returns-in_err-name c = λ k is.
    refused (λ d x. IsSiteDraft d (k ++ x ∷ [])) _ c.from_residual.result (new_name (accounts k) c.args.words.now) (λ name. Ok (join name)) c.in_err-name.field-0.0 c.from_residual.ensures.1
    (ap (λ names. new_name names c.args.words.now) (sym is.named) ∙ sym c.in_err-name.ensures.name)

pub returns : goal.returns
unfolding account_line
returns c = λ k is. (
  join c.in_ok-name.name,
  ap (λ r. r >>= λ name. Ok (join name)) (ap (λ names. new_name names c.args.words.now) (sym is.named) ∙ sym c.in_ok-name.ensures.name),
  draft-join c.args.self.now _ k c.in_ok-name.name is c.in_ok-push.ensures.added c.in_ok-push-2.ensures.items refl refl c.in_ok-name.ensures.room,
)
