use Rattle.trust_types.specs.Changes.{Certified}
use Rattle.cert_book_cases.proofs.changes.certify.Goals as goal

pub add_cert-requires-clause-follows : goal.add_cert-requires-clause-follows
add_cert-requires-clause-follows g c = c.make_room.ensures.follows (Certified (record { from = c.args.author; to = c.in_ok-account.account; level = c.args.level })) c.in_ok-account.ensures.follows

pub add_cert-requires-clause-place : goal.add_cert-requires-clause-place
add_cert-requires-clause-place g c = c.make_room.ensures.place (Certified (record { from = c.args.author; to = c.in_ok-account.account; level = c.args.level })) c.in_ok-account.ensures.place
