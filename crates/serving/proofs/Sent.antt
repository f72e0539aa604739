-- A server's jobs may go to other threads.
use denote.RattleType.{RattleType}
use denote.Struct.Declared.{shape}
use denote.Struct.Struct.{Struct}
use denote.Param.Send.{IsSend, IsSync, recorded_send, recorded_sync, struct_send, struct_sync, sendable}
use Rattle.std.proofs.Crossing.{crosses}
use Rattle.outside.specs.declared.keeper.Keeper as Keeper
use Rattle.outside_serving.specs.declared.link.Link as Link
use Rattle.outside_serving.specs.declared.clock.Clock as Clock
use Rattle.outside_serving.specs.declared.entropy.Entropy as Entropy
use Rattle.site_sharing.proofs.Sharing.{seat_sends, site_fields_send, site_fields_sync}
use Rattle.serving.specs.contracts.tick.Tick as Tick
use Rattle.serving.specs.contracts.tick_link.TickLink as TickLink
use Rattle.serving.specs.contracts.tick_link.TickLinkLink.TheImpl.{ghosts, no_dict}
use Rattle.serving.specs.contracts.queue.Queue as Queue
use Rattle.serving.specs.contracts.board.Board as Board
use Rattle.serving.specs.contracts.hall.Hall as Hall
use Rattle.serving.specs.contracts.desks.Bench as Bench
use Rattle.serving.specs.contracts.desks.Desk as Desk

tick_sends : IsSend Tick.the_row
tick_sends = search (sendable, crosses) depth 40

tick_syncs : IsSync Tick.the_row
tick_syncs = search (sendable, crosses) depth 40

queue_sends : (T : RattleType) → IsSend T → IsSend (Struct (shape (Queue.the_type T)))
queue_sends T t = search (sendable, crosses) depth 40

queue_syncs : (T : RattleType) → IsSend T → IsSync (Struct (shape (Queue.the_type T)))
queue_syncs T t = search (sendable, crosses) depth 40

board_sends : (T : RattleType) (link : Link.Ghosts T.Denot) → IsSend T → IsSend (Struct (shape (Board.the_type T link)))
board_sends T link t = search (sendable, crosses) depth 40

board_syncs : (T : RattleType) (link : Link.Ghosts T.Denot) → IsSend T → IsSync (Struct (shape (Board.the_type T link)))
board_syncs T link t = search (sendable, crosses) depth 40

module _ (K L : RattleType) (keeper : Keeper.Ghosts K.Denot) (link : Link.Ghosts L.Denot) (k : IsSend K) (l : IsSend L) where
  -- what such a link tells
  abbrev told : Link.Ghosts (TickLink.the_row L).Denot
  told = ghosts L link no_dict no_dict

  link_sends : IsSend (TickLink.the_row L)
  link_sends = let sends = tick_sends in let syncs = tick_syncs in search (sendable, crosses) depth 40

  hall_sends : IsSend (Hall.the_row K L keeper link)
  hall_sends = let T = Hall.the_type K L keeper link in let sends = tick_sends in let syncs = tick_syncs in
      recorded_send _ _ _ T.to_one (struct_send (shape T) (site_fields_send K keeper k, (queue_sends _ link_sends, (board_sends _ told link_sends, (search (sendable, crosses) depth 20, tt)))))

  hall_syncs : IsSync (Hall.the_row K L keeper link)
  hall_syncs = let T = Hall.the_type K L keeper link in let sends = tick_sends in let syncs = tick_syncs in
      recorded_sync _ _ _ T.to_one (struct_sync (shape T) (site_fields_sync K keeper k, (queue_syncs _ link_sends, (board_syncs _ told link_sends, (search (sendable, crosses) depth 20, tt)))))

  pub bench_sends : IsSend (Bench.the_row K L link keeper)
  bench_sends =
      let sends = hall_sends in
      let syncs = hall_syncs in
      let seat = seat_sends K keeper k in
      search (sendable, crosses) depth 40

  pub desk_sends : (C E : RattleType) (clock : Clock.Ghosts C.Denot) (entropy : Entropy.Ghosts E.Denot) → IsSend C → IsSend E → IsSend (Desk.the_row K L C E link clock entropy keeper)
  desk_sends C E clock entropy c e =
      let sends = hall_sends in
      let syncs = hall_syncs in
      let seat = seat_sends K keeper k in
      search (sendable, crosses) depth 40
