use Rattle.pair_map.proofs.Entries.{rises}
use Rattle.pair_map.proofs.pair_maps.PairMap.into_pairs.Goals as goal

pub returns-clause-rises : goal.returns-clause-rises
returns-clause-rises g c = rw (← c.self.view_is) (rises _ c.into_iter.ensures.into_iter_gives.5)
