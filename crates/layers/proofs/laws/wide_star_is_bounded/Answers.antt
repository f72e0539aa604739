use Rattle.std.proofs.Common.{refl}
use Rattle.layers.proofs.laws.wide_star_is_bounded.Goals as goal

pub returns : goal.returns
returns c = (refl, refl)
