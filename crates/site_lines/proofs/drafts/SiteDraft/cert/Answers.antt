use Rattle.std.proofs.Common.{◌≡◌, ap, sym, ◌∙◌, ◌∷◌, ◌++◌, [], refl, Ok, nat_le}
use Rattle.trust_types.specs.declared.limits.TheConstants.{MOST_CERTS}
use Rattle.trust_types.specs.declared.graphs.Cert.{Cert}
use Rattle.text_lines.specs.declared.faults.TextKind.TheVariants.{TooMany}
use Rattle.text_lines.specs.Steps.{◌>>=◌, fault_unless}
use Rattle.text_lines.proofs.Stepping.{refused, passed, fault_unless-ok}
use Rattle.trust_types.specs.Changes.{standing_count}
use Rattle.trust_types.specs.Kept.{accounts, certs_of}
use Rattle.site_lines.specs.Site.{cert, given_cert, cert_line}
use Rattle.site_lines.specs.Drafts.{IsSiteDraft}
use Rattle.site_lines.proofs.Drafting.{draft-cert, given-between}
use Rattle.site_lines.proofs.drafts.SiteDraft.cert.Goals as goal

pub returns-in_err-cert : goal.returns-in_err-cert
unfolding cert_line
returns-in_err-cert c = λ k is.
    let settled = c.settle.ensures k is in
    refused (λ d x. IsSiteDraft d (k ++ x ∷ [])) _ c.from_residual-in_err-cert.result (given_cert c.args.table.now (accounts k) c.args.words.now)
    (λ c. fault_unless (nat_le (standing_count (certs_of k ++ c ∷ [])) MOST_CERTS) TooMany >>= λ _. Ok (cert c.from c.to c.level)) c.in_err-cert.field-0.0
    c.from_residual-in_err-cert.ensures.1 (sym (c.in_err-cert.ensures.cert k settled))

pub returns-in_err-fault_unless : goal.returns-in_err-fault_unless
unfolding cert_line
returns-in_err-fault_unless c = λ k is.
    let settled = c.settle.ensures k is in
    let drafted = c.given_cert.ensures.draft k settled in
    let given : Cert = c.in_ok-cert.cert in
    passed (λ d x. IsSiteDraft d (k ++ x ∷ [])) _ c.from_residual-in_err-fault_unless.result (given_cert c.args.table.now (accounts k) c.args.words.now)
    (λ c. fault_unless (nat_le (standing_count (certs_of k ++ c ∷ [])) MOST_CERTS) TooMany >>= λ _. Ok (cert c.from c.to c.level)) given (sym (c.in_ok-cert.ensures.cert k settled))
    (refused (λ d x. IsSiteDraft d (k ++ x ∷ [])) _ c.from_residual-in_err-fault_unless.result (fault_unless (nat_le (standing_count (certs_of k ++ given ∷ [])) MOST_CERTS) TooMany)
    (λ _. Ok (cert given.from given.to given.level)) c.in_err-fault_unless.field-0.0 c.from_residual-in_err-fault_unless.ensures.1
    (ap (λ fits. fault_unless fits TooMany) (sym (c.in_ok-push.ensures (certs_of k) drafted.logged).0) ∙ sym c.in_err-fault_unless.ensures))

pub returns : goal.returns
unfolding cert_line
returns c = λ k is.
    let settled = c.settle.ensures k is in
    let drafted = c.given_cert.ensures.draft k settled in
    let given : Cert = c.in_ok-cert.cert in
    let taken = c.in_ok-push.ensures (certs_of k) drafted.logged in
    let said : given_cert c.args.table.now (accounts k) c.args.words.now ≡ Ok given = sym (c.in_ok-cert.ensures.cert k settled) in (
      cert given.from given.to given.level,
      ap (λ r. r >>= λ c. fault_unless (nat_le (standing_count (certs_of k ++ c ∷ [])) MOST_CERTS) TooMany >>= λ _. Ok (cert c.from c.to c.level)) said
          ∙ ap (λ r. r >>= λ _. Ok (cert given.from given.to given.level)) (ap (λ fits. fault_unless fits TooMany) (sym taken.0) ∙ sym c.in_ok-fault_unless.ensures),
      draft-cert c.given_cert.new.self _ k given drafted (given-between c.args.table.now k c.args.words.now given said) refl refl (taken.1 (fault_unless-ok _ TooMany _ (sym c.in_ok-fault_unless.ensures))) refl,
    )
