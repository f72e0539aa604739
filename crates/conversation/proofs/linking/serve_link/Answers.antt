use Rattle.conversation.proofs.Ending.{unbegun}
use Rattle.conversation.proofs.linking.serve_link.Goals as goal

pub returns-in_default-clause-conversed : goal.returns-in_default-clause-conversed
returns-in_default-clause-conversed g c =
    rw (c.unheard.ensures.why, c.unheard.ensures.none, c.unheard.ensures.same) (unbegun c.args.seat.now (g.L.Link.line c.args.link) (g.C.Clock.dial c.args.clock.now) (g.E.Entropy.pool c.args.entropy.now) c.number-number.ensures.legal).conversed

pub returns-in_default-new-clause-conversed : goal.returns-in_default-new-clause-conversed
returns-in_default-new-clause-conversed g c =
    rw (c.unheard-in_default-new.ensures.why, c.unheard-in_default-new.ensures.none, c.unheard-in_default-new.ensures.same)
    (unbegun c.args.seat.now (g.L.Link.line c.args.link) (g.C.Clock.dial c.args.clock.now) (g.E.Entropy.pool c.args.entropy.now) c.number-number.ensures.legal).conversed
