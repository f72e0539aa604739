use denote.Exit.{no}
use denote.Param.Send.{param_sync, arg_sync}
use Rattle.site_sharing.proofs.Sharing.{site_syncs}
use Rattle.site_sharing.proofs.sites_are_shared.Goals as goal

pub shared-requires-sync-T : goal.shared-requires-sync-T
shared-requires-sync-T g c κs within = param_sync 0 _ (arg_sync _ no _ (site_syncs _ g.K.Keeper c.type_bounds.send-K))
