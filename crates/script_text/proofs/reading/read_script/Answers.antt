use Rattle.std.proofs.Common.{ℕ, ◌≡◌, ◌+◌, List, Err, refl, subst, ap, sym, ◌∙◌}
use Rattle.std.specs.Prelude.{IfSome}
use Rattle.trust_types.specs.Tables.{Table}
use Rattle.text_lines.specs.Words.{lines}
use Rattle.text_lines.specs.Reading.{reading}
use Rattle.text_lines.specs.Steps.{◌>>=◌}
use Rattle.text_lines.proofs.Stepping.{refused_text, passed_text}
use Rattle.site_text.specs.Site.{table_of, head_count, behind_head}
use Rattle.script_text.specs.Faults.{fault_of}
use Rattle.script_text.specs.declared.faults.ScriptFault.TheVariants.{Text}
use Rattle.script_text.specs.Scripts.{Lines, script_of, script_line, no_lines, IsScriptOf}
use Rattle.script_text.proofs.Composing.{with_table, with_lines}
use Rattle.script_text.proofs.reading.read_script.Goals as goal

pub returns-in_err-caps : goal.returns-in_err-caps
unfolding script_of
returns-in_err-caps c =
    let same : c.of-text.result.bytes ≡ c.args.bytes.now = ap (λ u. u.bytes) c.of-text.ensures in
    refused_text (λ script said. IsScriptOf said script) fault_of c.from_residual.result (table_of (lines c.args.bytes.now)) (with_table (lines c.args.bytes.now)) (Text c.in_err-caps.field-0.0)
    c.from_residual.ensures.1 (ap (λ bs. table_of (lines bs)) (sym same) ∙ sym c.in_err-caps.ensures.table)

pub returns-in_err-lines : goal.returns-in_err-lines
unfolding script_of
returns-in_err-lines c =
    let same : c.of-text.result.bytes ≡ c.args.bytes.now = ap (λ u. u.bytes) c.of-text.ensures in
    let ls : List (List ℕ) = lines c.args.bytes.now in
    let table : Table = c.in_ok-caps.caps in
    let start : c.read_head.new.text.number ≡ head_count ls = c.in_ok-caps.ensures.number ∙ ap (λ bs. head_count (lines bs)) same in
    let left : lines c.read_head.new.text.bytes ≡ behind_head ls = c.in_ok-caps.ensures.left ∙ ap (λ bs. behind_head (lines bs)) same in
    passed_text (λ script said. IsScriptOf said script) fault_of c.from_residual-in_err-lines.result (table_of ls) (with_table ls) table
    (ap (λ bs. table_of (lines bs)) (sym same) ∙ sym c.in_ok-caps.ensures.table)
    (refused_text (λ script said. IsScriptOf said script) fault_of c.from_residual-in_err-lines.result (reading script_line (head_count ls + 1) no_lines (behind_head ls)) (with_lines table) c.in_err-lines.field-0.0
    c.from_residual-in_err-lines.ensures.1 (subst (λ said. IfSome (fault_of c.in_err-lines.field-0.0) (λ f. said ≡ Err f)) (λ i. reading script_line (start i + 1) no_lines (left i)) c.in_err-lines.ensures))

pub returns : goal.returns
unfolding script_of
returns c =
    let same : c.of-text.result.bytes ≡ c.args.bytes.now = ap (λ u. u.bytes) c.of-text.ensures in
    let ls : List (List ℕ) = lines c.args.bytes.now in
    let table : Table = c.in_ok-caps.caps in
    let start : c.read_head.new.text.number ≡ head_count ls = c.in_ok-caps.ensures.number ∙ ap (λ bs. head_count (lines bs)) same in
    let left : lines c.read_head.new.text.bytes ≡ behind_head ls = c.in_ok-caps.ensures.left ∙ ap (λ bs. behind_head (lines bs)) same in
    let all : Lines = c.in_ok-lines.ensures.0 in (
      record { table = table; lines = all.asked },
      ap (λ r. r >>= with_table ls) (ap (λ bs. table_of (lines bs)) (sym same) ∙ sym c.in_ok-caps.ensures.table)
          ∙ ap (λ r. r >>= with_lines table) (sym (λ i. reading script_line (start i + 1) no_lines (left i)) ∙ c.in_ok-lines.ensures.1),
      record { table = refl; lines = c.in_ok-lines.ensures.2 },
    )
