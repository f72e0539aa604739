use Rattle.std.proofs.Common.{sym, ◌∙◌, arith}
use Rattle.site_records.proofs.Numbers.{number_some}
use Rattle.site_records.proofs.parts.number_in.Goals as goal

pub returns-then-is_number-clause-number : goal.returns-then-is_number-clause-number
returns-then-is_number-clause-number c =
    sym (number_some c.args.most c.in-Some.number c.args.value.now c.parsed.result (omega arith) c.parsed.ensures c.in-Some.is (sym c.is_number.ensures ∙ c.if-is_number.true))
