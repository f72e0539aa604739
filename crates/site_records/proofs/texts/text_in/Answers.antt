use Rattle.std.proofs.Common.{ap, ◌∙◌, sym, inr, Ok, string_bytes}
use Rattle.std.proofs.lemmas.Bool.{false≢true}
use Rattle.std.proofs.lemmas.Str.{IsUtf8-string_bytes}
use Rattle.form_urlencoded.specs.Form.{byte_serialize}
use Rattle.site_records.specs.inner.Reading.{text_in}
use Rattle.site_records.proofs.Values.{text_in-value, text_in-other}
use Rattle.site_records.proofs.texts.text_in.Goals as goal

pub returns-then-is_value_of : goal.returns-then-is_value_of
returns-then-is_value_of c =
    ap text_in (c.is_value_of.ensures.0 c.if-is_value_of.true ∙ ap byte_serialize c.as_bytes.ensures.value)
    ∙ text_in-value (string_bytes c.in-Ok.text) (IsUtf8-string_bytes c.in-Ok.text) ∙ ap Ok (sym c.from_string.ensures)

pub returns-else-is_value_of : goal.returns-else-is_value_of
returns-else-is_value_of c =
    inr (text_in-other c.args.value.now (string_bytes c.in-Ok.text) c.in-Ok.ensures
    (λ e. false≢true (sym c.if-is_value_of.false ∙ c.is_value_of.ensures.1 (e ∙ ap byte_serialize (sym c.as_bytes.ensures.value)))))
