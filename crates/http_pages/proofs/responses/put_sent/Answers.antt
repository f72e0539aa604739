use Rattle.html_pages.proofs.Inking.{inked_nothing}
use Rattle.http_pages.proofs.responses.put_sent.Goals as goal

pub returns-then-bare : goal.returns-then-bare
returns-then-bare c = rw c.if-bare.true (inked_nothing c.args.pen.now)
