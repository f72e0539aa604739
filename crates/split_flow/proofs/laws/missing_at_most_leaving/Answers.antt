use Rattle.split_flow.proofs.Balance as law
use Rattle.split_flow.proofs.laws.missing_at_most_leaving.Goals as goal

pub returns : goal.returns
returns c = law.missing_at_most_leaving
