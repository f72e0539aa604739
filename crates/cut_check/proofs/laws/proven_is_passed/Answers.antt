use Rattle.cut_check.proofs.Passing as law
use Rattle.cut_check.proofs.laws.proven_is_passed.Goals as goal

pub returns : goal.returns
returns c = law.proven_is_passed
