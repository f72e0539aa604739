use Rattle.frozen.proofs.Copying.{start_le}
use Rattle.frozen.proofs.blocks.certs_between.Goals as goal

pub returns-clause-ordered : goal.returns-clause-ordered
returns-clause-ordered c = rw c.starts-starts.ensures (start_le _ c.requires.rows _ _ c.requires.ordered c.requires.within)
