use Rattle.std.proofs.Common.{ℕ, ◌+◌, List, ap, sym, ◌∙◌, refl}
use Rattle.text_lines.specs.Words.{lines}
use Rattle.text_lines.specs.Reading.{reading, fault_at}
use Rattle.text_lines.proofs.Following.{reading-more, reading-end, reading-refused}
use Rattle.script_text.specs.Faults.{fault_of}
use Rattle.script_text.specs.Scripts.{script_line, Lines}
use Rattle.script_text.specs.inner.Drafts.{IsDraftOf, lines_of}
use Rattle.script_text.proofs.reading.read_lines.Goals as goal

pub loop-line-preserved : goal.loop-line-preserved
loop-line-preserved c =
    let said = c.in-Ok.ensures in
    let n : ℕ = c.loop-line.text.number + 1 in
    let before : Lines = lines_of c.loop-line.draft in
    let others : List (List ℕ) = lines c.next_line.new.self.bytes in
    (λ i. reading script_line (c.in-Some.ensures.number i + 1) (said.2 i) others)
    ∙ sym (reading-more script_line n before c.in-Some.line.now others said.0 said.1)
    ∙ ap (reading script_line n before) (sym c.in-Some.ensures.line) ∙ c.loop-line.invariant

pub returns-in-Err : goal.returns-in-Err
returns-in-Err c =
    let n : ℕ = c.loop-line.text.number + 1 in
    let before : Lines = lines_of c.loop-line.draft in
    reading-refused script_line IsDraftOf fault_of n before c.in-Some.line.now (lines c.next_line.new.self.bytes) _ c.read.new.self c.in-Err.fault c.at_line.result
    (ap (reading script_line n before) (sym c.in-Some.ensures.line) ∙ c.loop-line.invariant) c.in-Err.ensures
    (c.at_line.ensures ∙ ap (λ m. fault_at m c.in-Err.fault) (c.number.ensures.value ∙ c.in-Some.ensures.number))

pub returns : goal.returns
returns c =
    let before : Lines = lines_of c.loop-line.draft in
    (before, sym c.loop-line.invariant ∙ reading-end script_line (c.loop-line.text.number + 1) before _ c.in_default.ensures.line, refl)
