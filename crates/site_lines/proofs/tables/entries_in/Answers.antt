use Rattle.std.proofs.Common.{sym, ◌∙◌, ap}
use Rattle.site_lines.specs.Site.{judged}
use Rattle.site_lines.proofs.Entering.{entries_in-more, entries_in-numbers, judged-first}
use Rattle.site_lines.proofs.tables.entries_in.Goals as goal

pub returns-in-Some-next_word : goal.returns-in-Some-next_word
returns-in-Some-next_word c = sym (entries_in-more _ _ _ _ _ c.in-Some.ensures.word c.in-Some-next_word.ensures.word (sym c.is_same.ensures ∙ c.if-is_same.true))

pub returns-in-Some-read : goal.returns-in-Some-read
returns-in-Some-read c =
    let all = c.in-Some-read.ensures in
    c.judged.ensures ∙ ap judged all.2 ∙ judged-first all.0 ∙ sym (entries_in-numbers _ _ _ _ c.in-Some.ensures.word (sym c.is_same.ensures ∙ c.if-is_same.false) all.1)
