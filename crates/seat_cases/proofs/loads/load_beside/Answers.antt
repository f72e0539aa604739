use denote.Param.Send.{sendable}
use Rattle.std.proofs.Crossing.{crosses}
use Rattle.seat_cases.proofs.Sent.{seat_goes, site_is_shared}
use Rattle.seat_cases.proofs.loads.load_beside.Goals as goal

pub join-written-requires-send-F : goal.join-written-requires-send-F
join-written-requires-send-F g c κs within =
    let seat = seat_goes in
    let site = site_is_shared in
    let runtime = c.type_bounds.sync-R in
    search (sendable, crosses) depth 40
