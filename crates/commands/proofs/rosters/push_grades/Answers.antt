use Rattle.site_text.specs.View.{of_frozen}
use Rattle.commands.proofs.Lines.{more_added}
use Rattle.commands.proofs.rosters.push_grades.Goals as goal

pub loop-level-preserved : goal.loop-level-preserved
loop-level-preserved c =
    more_added (of_frozen c.args.candidate.now.graph) c.args.levels.now c.loop-level.level-index _ c.args.text.now.items c.loop-level.text.items c.push_grade.new.text.items
    c.loop-level-test.true c.loop-level.invariant c.in_ok-push_grade.ensures
