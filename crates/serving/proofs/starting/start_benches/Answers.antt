use denote.Exit.{no}
use denote.Param.Send.{param_send, arg_send}
use Rattle.serving.proofs.Sent.{bench_sends}
use Rattle.serving.proofs.starting.start_benches.Goals as goal

pub start-requires-send-J : goal.start-requires-send-J
start-requires-send-J g c κs within =
    param_send 2 _ (arg_send _ no _ (bench_sends _ _ g.K.Keeper g.L.Link c.type_bounds.send-K c.type_bounds.send-L))
