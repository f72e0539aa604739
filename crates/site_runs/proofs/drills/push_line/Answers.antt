use Rattle.std.proofs.Common.{rules}
use Rattle.std.proofs.lemmas.Result.{on_ok_weaker}
use Rattle.roster_form.specs.LevelRosters.{lists_of}
use Rattle.site_runs.proofs.Worth.{total_added}
use Rattle.site_runs.proofs.drills.push_line.Goals as goal

pub returns : goal.returns
returns c =
    on_ok_weaker c.put_line.result
    (total_added c.args.frozen.now c.args.level (lists_of c.in_ok-roster.roster) c.deref.result.now c.deref-2.result.now c.in_ok-worth.worth c.len.result c.args.text.now.items c.put_line.new.text.items
    c.in_ok-roster.ensures.sound c.deref.ensures.value c.deref-2.ensures.value c.in_ok-worth.ensures (search rules))
    c.put_line.ensures
