use Rattle.split_flow.proofs.Endings as law
use Rattle.split_flow.proofs.laws.moved_is_feasible.Goals as goal

pub returns : goal.returns
returns c = law.moved_is_feasible
