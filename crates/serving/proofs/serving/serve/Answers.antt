use Rattle.serving.proofs.serving.serve.Goals as goal

pub returns-in-Ok-clause-ended : goal.returns-in-Ok-clause-ended
returns-in-Ok-clause-ended g c = (c.in-Ok.book.history.opened, c.in-Ok.ensures.opens, c.host-status.ensures.hosts)
