use Rattle.std.proofs.Common.{sym, ◌∙◌}
use Rattle.cert_book.proofs.Passing.{on_ok, unknown}
use Rattle.cert_book.proofs.book.CertBook.judge_name.Goals as goal

pub returns-clause-follows : goal.returns-clause-follows
returns-clause-follows c = on_ok c.fault_if.result _ (λ _. unknown _ _ (sym c.find.ensures.number ∙ c.in_default.is))
