use Rattle.std.proofs.Common.{ap, ◌∙◌, sym, Err, rules}
use Rattle.site_records.specs.inner.Entering.{pieces}
use Rattle.site_records.proofs.Entering.{entered_many}
use Rattle.site_records.proofs.tables.entries_in.Goals as goal

pub returns-in_err-push : goal.returns-in_err-push
returns-in_err-push c =
    (search rules) ∙ ap Err c.in_err-push.ensures.0
    ∙ sym (entered_many c.loop-rest.entries c.cut.result.0.now c.args.value.now (pieces c.cut.result.1) (pieces c.loop-rest.rest) c.in_ok-number_in.field-0
    c.loop-rest.invariant (ap pieces c.in-Some.is ∙ c.cut.ensures.pieces) c.in_ok-number_in.ensures.number c.in_err-push.ensures.1)
