use Rattle.trust_types.specs.Changes.{Unseeded}
use Rattle.cert_book_cases.proofs.changes.unseed.Goals as goal

pub add_unseed-requires-clause-follows : goal.add_unseed-requires-clause-follows
add_unseed-requires-clause-follows g c = c.make_room.ensures.follows (Unseeded c.in_ok-account.account) c.in_ok-account.ensures.follows
