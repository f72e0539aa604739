use Rattle.trust_types.specs.Changes.{Seeded}
use Rattle.cert_book_cases.proofs.changes.seed.Goals as goal

pub add_seed-requires-clause-follows : goal.add_seed-requires-clause-follows
add_seed-requires-clause-follows g c = c.make_room.ensures.follows (Seeded c.in_ok-account.account) c.in_ok-account.ensures.follows
