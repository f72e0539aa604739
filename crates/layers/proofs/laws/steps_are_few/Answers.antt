use Rattle.layers.proofs.FewPhases as law
use Rattle.layers.proofs.laws.steps_are_few.Goals as goal

pub returns : goal.returns
returns c = law.steps_are_few
