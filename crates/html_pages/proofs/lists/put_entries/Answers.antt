use Rattle.std.proofs.lemmas.List.{get_or_default}
use Rattle.html_pages.specs.Lines.{spaced}
use Rattle.html_pages.proofs.Inking.{inked_nothing, line_more}
use Rattle.html_pages.proofs.lists.put_entries.Goals as goal

pub loop-entry-init : goal.loop-entry-init
loop-entry-init c = inked_nothing c.args.pen.now

pub loop-entry-preserved : goal.loop-entry-preserved
loop-entry-preserved c =
    line_more spaced c.args.pen.now c.loop-entry.pen c.put_spaced.new.pen c.args.entries.now c.loop-entry.entry-index _ c.loop-entry-test.true
    (get_or_default c.args.entries.now c.loop-entry.entry-index _ _ c.loop-entry-test.true) c.loop-entry.invariant c.in_ok-put_spaced.ensures
