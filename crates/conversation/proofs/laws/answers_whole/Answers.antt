use Rattle.conversation.proofs.Whole.{whole}
use Rattle.conversation.proofs.laws.answers_whole.Goals as goal

pub returns : goal.returns
returns c = λ before now exchanges end asked s. whole before now exchanges asked s end
