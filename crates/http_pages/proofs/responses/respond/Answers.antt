use Rattle.std.specs.Prelude.{option_map}
use Rattle.http_pages.specs.Responses.{head, sent, bytes_of}
use Rattle.html_pages.specs.Bodies.{body_of}
use Rattle.http_pages.specs.inner.Leads.{path, cookie_text}
use Rattle.html_pages.proofs.Inking.{responded}
use Rattle.http_pages.proofs.responses.respond.Goals as goal

pub returns : goal.returns
unfolding bytes_of
returns c =
    let told = c.args.told.now in
    responded (λ length. head told.status told.kind length (option_map path told.location) (option_map cookie_text told.cookie) told.close c.args.moment)
    (body_of c.args.body.now) (sent c.args.bare (body_of c.args.body.now))
    _ _ _ _ _ _ _ c.counting-counter.ensures c.in_ok-put_body.ensures c.amount-length.ensures c.in_ok-pen.ensures c.in_ok-put_head-2.ensures c.in_ok-put_sent-2.ensures
    c.into_text.ensures
