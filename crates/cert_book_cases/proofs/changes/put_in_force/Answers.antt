use Rattle.trust_types.specs.Changes.{Tabled}
use Rattle.cert_book_cases.proofs.changes.put_in_force.Goals as goal

pub add_table-requires-clause-follows : goal.add_table-requires-clause-follows
add_table-requires-clause-follows g c = c.make_room.ensures.follows (Tabled c.args.caps) c.in_ok-judge_table.ensures.follows
