use denote.Exit.{no}
use denote.Param.Send.{param_send, arg_send}
use Rattle.site_sharing.proofs.Sharing.{seat_sends}
use Rattle.site_sharing.proofs.seats_are_sent.Goals as goal

pub sent-requires-send-T : goal.sent-requires-send-T
sent-requires-send-T g c κs within = param_send 0 _ (arg_send _ no _ (seat_sends _ g.K.Keeper c.type_bounds.send-K))
