use Rattle.site_core.proofs.Admission.{all_admitted}
use Rattle.site_core.proofs.book.Book.submit.Goals as goal

pub returns-clause-admitted : goal.returns-clause-admitted
returns-clause-admitted g c = all_admitted _ _ c.answer-answer.result c.answer-answer.ensures.reply
