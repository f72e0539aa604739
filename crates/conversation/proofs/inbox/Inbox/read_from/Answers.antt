use Rattle.conversation.proofs.Bytes.{known_later}
use Rattle.conversation.proofs.inbox.Inbox.read_from.Goals as goal

pub invariant_of-self : goal.invariant_of-self
invariant_of-self g c = known_later _ _ _ _ _ c.read_from.result c.read_from.ensures c.self.invariant
