use Rattle.std.proofs.Common.{sym}
use Rattle.html_pages.specs.Lines.{seed_line}
use Rattle.html_pages.proofs.Inking.{inked_nothing, line_more}
use Rattle.html_pages.proofs.lists.put_seed_lines.Goals as goal

pub loop-seed-init : goal.loop-seed-init
loop-seed-init c = inked_nothing c.args.pen.now

pub loop-seed-preserved : goal.loop-seed-preserved
loop-seed-preserved c =
    line_more seed_line c.args.pen.now c.loop-seed.pen c.put_seed_line.new.pen c.args.seeds.now c.loop-seed.seed-index c.seed-item.result c.loop-seed-test.true (sym c.seed-item.is)
    c.loop-seed.invariant c.in_ok-put_seed_line.ensures
