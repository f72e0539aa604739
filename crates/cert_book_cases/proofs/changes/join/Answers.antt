use Rattle.trust_types.specs.Changes.{Joined}
use Rattle.cert_book_cases.proofs.changes.join.Goals as goal

pub add_join-requires-clause-follows : goal.add_join-requires-clause-follows
add_join-requires-clause-follows g c = c.make_room.ensures.follows (Joined c.in_ok-name.name) c.in_ok-name.ensures.follows

pub add_join-requires-clause-place : goal.add_join-requires-clause-place
add_join-requires-clause-place g c = c.make_room.ensures.place (Joined c.in_ok-name.name) c.in_ok-name.ensures.place
