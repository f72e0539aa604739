use Rattle.std.proofs.Common.{List, ℕ, subst, ◌∙◌}
use Rattle.http_requests.specs.Requests.{IsAnswer}
use Rattle.conversation.proofs.inbox.Inbox.next.Goals as goal

pub returns-clause-answer : goal.returns-clause-answer
returns-clause-answer c = subst (λ (z : List ℕ). IsAnswer z c.next.result) (c.bytes.ensures ∙ c.self.view_is) c.next.ensures.answer
