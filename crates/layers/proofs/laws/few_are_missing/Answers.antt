use Rattle.layers.proofs.LayerCuts as law
use Rattle.layers.proofs.laws.few_are_missing.Goals as goal

pub returns : goal.returns
returns c = law.few_are_missing
