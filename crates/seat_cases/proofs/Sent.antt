-- Seats over rows in memory may go to another thread, and threads may share their site.
use denote.Param.Send.{IsSend, IsSync, sendable}
use Rattle.std.proofs.Crossing.{crosses}
use Rattle.outside.specs.contracts.mem_keeper.MemKeeper as MemKeeper
use Rattle.outside.specs.contracts.mem_keeper.MemKeeperKeeper.TheImpl as keeping
use Rattle.turn_book.specs.contracts.seat.Seat as Seat
use Rattle.turn_book.specs.contracts.site.Site as Site
use Rattle.site_sharing.proofs.Sharing.{seat_sends, site_syncs}

keeper_sends : IsSend MemKeeper.the_row
keeper_sends = search (sendable, crosses) depth 40

pub seat_goes : IsSend (Seat.the_row MemKeeper.the_row keeping.ghosts)
seat_goes = seat_sends MemKeeper.the_row keeping.ghosts keeper_sends

pub site_is_shared : IsSync (Site.the_row MemKeeper.the_row keeping.ghosts)
site_is_shared = site_syncs MemKeeper.the_row keeping.ghosts keeper_sends
