use Rattle.pair_map.proofs.Entries.{pair_set}
use Rattle.pair_map.proofs.pair_maps.PairMap.remove.Goals as goal

pub returns-clause-set : goal.returns-clause-set
returns-clause-set g c = rw (← c.self.view_is) (pair_set _ _ _ _ _ c.remove.ensures.updates.0)
