use Rattle.site_runs.proofs.Worth.{all_drilled}
use Rattle.site_runs.proofs.drills.drill_lines.Goals as goal

pub returns : goal.returns
returns c =
    all_drilled c.args.number c.in_ok-site.site.value c.deref.result.now c.deref-2.result.now c.deref-3.result.now c.new-text.result.items c.push_line.new.text.items c.push_line-2.new.text.items c.push_line-3.new.text.items
    c.in_ok-site.ensures c.deref.ensures c.deref-2.ensures c.deref-3.ensures c.new-text.ensures.items c.in_ok-push_line.ensures c.in_ok-push_line-2.ensures c.in_ok-push_line-3.ensures
