use denote.Param.Send.{sendable}
use Rattle.std.proofs.Crossing.{crosses}
use Rattle.seat_cases.proofs.Sent.{seat_goes, site_is_shared}
use Rattle.seat_cases.proofs.loads.+fn-watch_all-join+arg2+watch_all.Goals as goal

pub join-requires-send-F : goal.join-requires-send-F
join-requires-send-F g t c κs within =
    let seat = seat_goes in
    let site = site_is_shared in
    let runtime = c.requires.sync in
    search (sendable, crosses) depth 40
