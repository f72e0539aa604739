use Rattle.site_history.specs.Answers.{IsReply, entry_of}
use Rattle.turn_book.proofs.Seats.{goes_on}
use Rattle.seat_cases.proofs.steps.submit.Goals as goal

pub returns-clause-site : goal.returns-clause-site
returns-clause-site g c =
    (goes_on (λ before reply. IsReply before c.args.act reply) c.submit.result _ _ (λ before reply. entry_of c.args.seat.now.low c.args.act reply 0) c.submit.ensures.reply c.submit.ensures.same).0

pub returns-clause-later : goal.returns-clause-later
returns-clause-later g c =
    (goes_on (λ before reply. IsReply before c.args.act reply) c.submit.result _ _ (λ before reply. entry_of c.args.seat.now.low c.args.act reply 0) c.submit.ensures.reply c.submit.ensures.same).1
