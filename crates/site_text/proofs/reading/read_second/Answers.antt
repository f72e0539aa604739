use Rattle.std.proofs.Common.{sym, subst}
use Rattle.std.specs.Prelude.{IfOk}
use Rattle.trust_types.specs.Tables.{IsLevelCount}
use Rattle.site_text.proofs.Heading.{at_line-if}
use Rattle.site_text.proofs.reading.read_second.Goals as goal

pub returns-clause-within : goal.returns-clause-within
returns-clause-within c = subst (λ r. IfOk r IsLevelCount) (sym c.at_line.ensures) (at_line-if IsLevelCount _ c.read_levels.result c.read_levels.ensures.within)
