use Rattle.std.proofs.Common.{◌∙◌, sym, ap, List, ℕ, None, ◌≡◌, if◌then◌else◌, Some, Option}
use Rattle.std.specs.Option.{ok_or}
use Rattle.trust_types.specs.Names.{is_name}
use Rattle.cert_book.specs.declared.judging.CertFault.TheVariants.{NoSuchAccount}
use Rattle.cert_book.proofs.Passing.{unread}
use Rattle.cert_book.proofs.book.CertBook.known.Goals as goal

pub returns-in_default-clause-known : goal.returns-in_default-clause-known
returns-in_default-clause-known c =
    let read : None ≡ (if is_name c.args.word.now then Some c.args.word.now else None) = sym c.in_default.is ∙ c.read.ensures ∙ ap (λ (w : List ℕ). if is_name w then Some w else None) (c.as_bytes.ensures.value ∙ c.as_str.ensures.bytes) in
    sym (ap (λ (found : Option ℕ). ok_or found NoSuchAccount) (unread _ c.args.word.now c.accounts-accounts.ensures.named read))
