use Rattle.conversation.proofs.inbox.Inbox.skip.Goals as goal

pub invariant_of-self : goal.invariant_of-self
invariant_of-self c = c.restart.ensures c.skip.new.self
