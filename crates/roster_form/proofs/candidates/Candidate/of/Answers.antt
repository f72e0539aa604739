use Rattle.roster_form.proofs.Sound.{all_sound}
use Rattle.roster_form.proofs.candidates.Candidate.of.Goals as goal

pub returns-clause-sound : goal.returns-clause-sound
returns-clause-sound c = all_sound _ _ c.requires
