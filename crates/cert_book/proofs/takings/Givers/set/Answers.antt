use Rattle.std.proofs.Common.{sym, ◌∙◌}
use Rattle.cert_book.proofs.Rising.{has_same, lacks_at}
use Rattle.cert_book.proofs.takings.Givers.set.Goals as goal

pub returns-else-gives : goal.returns-else-gives
returns-else-gives c = λ a. has_same _ c.args.giver a c.args.gives (lacks_at _ c.in-Err.place c.args.giver c.in-Err.ensures ∙ sym c.if-gives.false)
