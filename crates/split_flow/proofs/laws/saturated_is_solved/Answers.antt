use Rattle.split_flow.proofs.Endings as law
use Rattle.split_flow.proofs.laws.saturated_is_solved.Goals as goal

pub returns : goal.returns
returns c = law.saturated_is_solved
