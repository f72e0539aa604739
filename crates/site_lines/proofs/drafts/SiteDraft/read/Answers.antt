use Rattle.std.proofs.Common.{sym, ◌∙◌}
use Rattle.text_lines.specs.Words.{words}
use Rattle.site_lines.specs.Site.{form}
use Rattle.site_lines.specs.Drafts.{Adds}
use Rattle.site_lines.proofs.Saying.{reads-line, reads-words}
use Rattle.site_lines.proofs.drafts.SiteDraft.read.Goals as goal
use Rattle.site_lines.proofs.drafts.SiteDraft.read.Goals.{else-is_err-via-then-is_err+else-not-is_line, else-is_err-via-else-is_err}

pub returns : goal.returns
returns c = λ k is.
    let adds : Adds k c.form-outcome.result c.form-outcome.new.self (form c.args.table.now k (words c.args.line.now)) = rw c.of.ensures at (c.form-outcome.ensures k is) in
    elim c.else-is_err.branch [
      | else-is_err-via-then-is_err+else-not-is_line w ↦ reads-line c.args.table.now k c.args.line.now c.form-outcome.result c.form-outcome.new.self (sym w.is_line.ensures ∙ w.if-not-is_line.false) adds
      | else-is_err-via-else-is_err w ↦ reads-words c.args.table.now k c.args.line.now c.form-outcome.result c.form-outcome.new.self (sym c.is_err.ensures.value ∙ w.if-is_err.false) adds
    ]
