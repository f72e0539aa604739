use Rattle.std.proofs.Common.{◌≡◌, Ok, Err, ap, sym, subst, ◌∙◌}
use Rattle.std.specs.Str.{IsUtf8}
use Rattle.percent_encoding.specs.declared.DecodeError.{DecodeError}
use Rattle.percent_encoding.specs.declared.DecodeError.TheVariants.{Utf8, OutOfMemory}
use Rattle.text_lines.specs.declared.faults.TextKind.TheVariants.{BadText}
use Rattle.script_text.proofs.Placing.{text-utf8, text-other}
use Rattle.script_text.proofs.places.text_in.Goals as goal

pub returns-in_ok-into_owned-in-Ok : goal.returns-in_ok-into_owned-in-Ok
returns-in_ok-into_owned-in-Ok c =
    text-utf8 c.args.word.now (subst IsUtf8 c.percent_decode_str.ensures.bytes c.in-Ok.ensures.ok_only_if_utf8)
    ∙ ap Ok (sym (c.from_string.ensures ∙ c.in_ok-into_owned-in-Ok.ensures.ok ∙ c.in-Ok.ensures.value ∙ c.percent_decode_str.ensures.bytes))

pub returns-in-Err-Utf8 : goal.returns-in-Err-Utf8
returns-in-Err-Utf8 c = λ kind e.
    let same : BadText ≡ kind = cc in
    text-other c.args.word.now (λ is.
    let clash : ◌≡◌ {A = DecodeError} (Utf8 c.in-Err-Utf8.field-0-0) OutOfMemory =
    sym c.in-Err-Utf8.field-0-is ∙ c.in-Err-Utf8.ensures.utf8 (subst IsUtf8 (sym c.percent_decode_str.ensures.bytes) is) in
    cc) ∙ ap Err same
