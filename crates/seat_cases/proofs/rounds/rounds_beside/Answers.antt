use denote.Param.Send.{sendable}
use Rattle.std.proofs.Crossing.{crosses}
use Rattle.seat_cases.proofs.Sent.{seat_goes, site_is_shared}
use Rattle.seat_cases.proofs.rounds.rounds_beside.Goals as goal

pub join-worker-requires-send-F : goal.join-worker-requires-send-F
join-worker-requires-send-F g c κs within =
    let seat = seat_goes in
    let site = site_is_shared in
    let runtime = c.type_bounds.sync-R in
    search (sendable, crosses) depth 40

pub join-worker-requires-send-A : goal.join-worker-requires-send-A
join-worker-requires-send-A g c κs within =
    let seat = seat_goes in
    search (sendable, crosses) depth 40
