use Rattle.std.proofs.Common.{◌++◌, ap, ◌∙◌, sym}
use Rattle.form_urlencoded.specs.Form.{byte_serialize}
use Rattle.form_urlencoded.specs.Serialize.{serialized_text}
use Rattle.site_records.proofs.Values.{next_piece, other_piece}
use Rattle.site_records.proofs.texts.is_value_of.Goals as goal

pub loop-piece-preserved : goal.loop-piece-preserved
loop-piece-preserved c =
    let later = serialized_text c.next.new.self in
    let cases = c.in-Some-strip_prefix.ensures.cases in
    next_piece c.args.value.now (byte_serialize c.args.text.now) c.loop-piece.rest.now c.as_bytes.result.now c.in-Some-strip_prefix.behind.now
    (serialized_text c.loop-piece.piece-iterator) later c.loop-piece.invariant (c.in-Some.ensures.steps ∙ ap (λ piece. piece ++ later) (sym c.as_bytes.ensures.value)) cases.0 cases.1

pub returns-in-None-strip_prefix : goal.returns-in-None-strip_prefix
returns-in-None-strip_prefix c =
    let later = serialized_text c.next.new.self in
    let other = other_piece c.args.value.now (byte_serialize c.args.text.now) c.loop-piece.rest.now c.as_bytes.result.now
    (serialized_text c.loop-piece.piece-iterator) later c.loop-piece.invariant (c.in-Some.ensures.steps ∙ ap (λ piece. piece ++ later) (sym c.as_bytes.ensures.value))
    c.in-None-strip_prefix.ensures.cases in
    (λ never. absurd (cc never), λ e. absurd (other e))
