use Rattle.roster_form.specs.LevelRosters.{lists_of}
use Rattle.script.proofs.Looking.{among}
use Rattle.script.proofs.looks.show.Goals as goal

pub show_roster-requires : goal.show_roster-requires
show_roster-requires c = among c.args.publication.now.candidate.graph c.args.level (lists_of c.in-Some.roster.now) c.in-Some.ensures.sound
