use Rattle.std.proofs.Common.{inl}
use Rattle.exchanges.specs.Answering.{content_of}
use Rattle.conversation.proofs.Talks.{has_token}
use Rattle.conversation.proofs.Ending.{clock_failed, delivered, entropy_failed, wanted}
use Rattle.conversation.proofs.conversing.take_up.Goals as goal

pub answer-requires-clause-token : goal.answer-requires-clause-token
answer-requires-clause-token g c = has_token _ _ _ _ c.in-Ok-draw.ensures

pub returns-in_default-clause-goes : goal.returns-in_default-clause-goes
returns-in_default-clause-goes g c = λ before rest k is. clock_failed before _ _ _ _ _ rest k _ (inl (c.args.asked.now, c.args.used, is)) c.requires.room c.now.ensures.same c.in_default.ensures.cause

pub returns-in_default-draw-clause-goes : goal.returns-in_default-draw-clause-goes
returns-in_default-draw-clause-goes g c = λ before rest k is.
    entropy_failed before _ _ _ _ _ rest k _ _ (c.args.asked.now, c.args.used, is, c.in_default-draw.ensures.0) c.requires.room c.now.ensures.same c.in-Ok.ensures.cause c.in_default-draw.ensures.1

pub returns-in_default-answer-clause-goes : goal.returns-in_default-answer-clause-goes
returns-in_default-answer-clause-goes g c = λ before rest k is.
    wanted before _ _ _ _ _ rest k _ _ _ c.args.asked.now c.args.used c.in-Ok-draw.token is c.in_default-answer.ensures.looks c.now.ensures.same c.in-Ok.ensures.cause c.in-Ok-draw.ensures

pub returns-clause-goes : goal.returns-clause-goes
returns-clause-goes g c = λ before rest k is.
    rw c.push.ensures (delivered before _ _ _ _ _ _ _ _ c.args.log.now rest c.args.asked.now c.args.used c.in-Ok-answer.decision.kind c.in-Ok-draw.token c.in-Ok.moment
    (content_of c.in-Ok-answer.decision.page c.answer.new.cache) c.deliver.result
    k is c.in-Ok-answer.ensures.answers c.in-Ok-draw.ensures c.in-Ok.ensures.within c.in-Ok.ensures.shown c.now.ensures.same c.in-Ok.ensures.cause c.deliver.ensures)
