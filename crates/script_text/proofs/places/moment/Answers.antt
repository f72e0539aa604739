use Rattle.std.proofs.Common.{ap, sym, ◌∙◌}
use Rattle.text_lines.specs.Numbers.{is_numeral}
use Rattle.script_text.proofs.Placing.{parsed}
use Rattle.script_text.proofs.places.moment.Goals as goal

pub returns-in_default : goal.returns-in_default
returns-in_default c =
    let form = ap (is_numeral 12) (sym c.as_bytes.ensures.value) ∙ sym c.is_numeral.ensures ∙ c.if-not-is_numeral.false in
    absurd (c.in_default.not-Ok _ (parsed c.args.word.now c.parse.result c.parse.ensures.value.0 form))
