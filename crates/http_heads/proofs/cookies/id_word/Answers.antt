use Rattle.std.proofs.Common.{Some, None, sym, ◌∙◌}
use Rattle.std.specs.List.{slice_split}
use Rattle.httparse.specs.Spans.{header_bytes}
use Rattle.http_heads.specs.Cookies.{id_in, is_part_end}
use Rattle.http_heads.proofs.Finding.{given-passed, given-here}
use Rattle.http_heads.proofs.cookies.id_word.Goals as goal
use Rattle.http_heads.proofs.cookies.id_word.Goals.{then-is_named+in_default, else-is_named}

pub returns-in-Some : goal.returns-in-Some
returns-in-Some c =
    sym (c.loop-header.invariant
    ∙ given-here (header_bytes c.args.bytes.now) c.args.name.now (slice_split is_part_end) id_in c.args.headers.now c.loop-header.header-index _ (Some c.in-Some.word.now) c.loop-header-test.true
    (sym c.is_named.ensures ∙ c.if-is_named.true) (sym (rw c.of.ensures at c.in-Some.ensures)))

pub loop-header-preserved : goal.loop-header-preserved
loop-header-preserved c =
    elim c.if-is_named.branch [
      | then-is_named+in_default w ↦
          c.loop-header.invariant
          ∙ given-here (header_bytes c.args.bytes.now) c.args.name.now (slice_split is_part_end) id_in c.args.headers.now c.loop-header.header-index _ None c.loop-header-test.true
          (sym c.is_named.ensures ∙ w.if-is_named.true) (sym (rw w.of.ensures at w.in_default.ensures))
      | else-is_named w ↦
          c.loop-header.invariant
          ∙ given-passed (header_bytes c.args.bytes.now) c.args.name.now (slice_split is_part_end) id_in c.args.headers.now c.loop-header.header-index _ c.loop-header-test.true
          (sym c.is_named.ensures ∙ w.if-is_named.false)
    ]
