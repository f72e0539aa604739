use Rattle.std.proofs.Common.{Some, None}
use Rattle.trust_types.specs.Capacity.{cap_by}
use Rattle.cut_check.proofs.Judging.{found_of_cut, value_of_cut, compared}
use Rattle.cut_check.proofs.checks.judge.Goals as goal

pub returns-in-Some-clause-verdict : goal.returns-in-Some-clause-verdict
returns-in-Some-clause-verdict c = (
  cap_by c.args.root.capacity c.args.caps.now,
  c.requires.figures.capacities,
  (rw c.deref.ensures.value at c.in-Some.ensures).2,
)

pub returns-in-Some-first_unbalanced-clause-verdict : goal.returns-in-Some-first_unbalanced-clause-verdict
returns-in-Some-first_unbalanced-clause-verdict c = (
  cap_by c.args.root.capacity c.args.caps.now,
  c.requires.figures.capacities,
  (rw c.deref.ensures.value at c.in_default.ensures, (c.in-Some-first_unbalanced.ensures _ _ c.requires.figures.sums).1),
)

pub returns-in-Some-first_unbalanced-clause-among : goal.returns-in-Some-first_unbalanced-clause-among
returns-in-Some-first_unbalanced-clause-among c = (c.in-Some-first_unbalanced.ensures _ _ c.requires.figures.sums).0

pub returns-in-Some-first_without_room-clause-verdict : goal.returns-in-Some-first_without_room-clause-verdict
returns-in-Some-first_without_room-clause-verdict c = (
  cap_by c.args.root.capacity c.args.caps.now,
  c.requires.figures.capacities,
  (
    rw c.deref.ensures.value at c.in_default.ensures,
    c.in_default-first_unbalanced.ensures _ _ c.requires.figures.sums,
    (c.in-Some-first_without_room.ensures _ _ c.requires.figures.sums c.requires.figures.sent).1,
  ),
)

pub returns-in-Some-first_without_room-clause-among : goal.returns-in-Some-first_without_room-clause-among
returns-in-Some-first_without_room-clause-among c =
    (c.in-Some-first_without_room.ensures _ _ c.requires.figures.sums c.requires.figures.sent).0

pub returns-in-Some-first_unserved_conduit-clause-verdict : goal.returns-in-Some-first_unserved_conduit-clause-verdict
returns-in-Some-first_unserved_conduit-clause-verdict c = (
  cap_by c.args.root.capacity c.args.caps.now,
  c.requires.figures.capacities,
  (
    rw c.deref.ensures.value at c.in_default.ensures,
    c.in_default-first_unbalanced.ensures _ _ c.requires.figures.sums,
    c.in_default-first_without_room.ensures _ _ c.requires.figures.sums c.requires.figures.sent,
    (c.in-Some-first_unserved_conduit.ensures _ _ c.requires.figures.sums).1,
  ),
)

pub returns-in-Some-first_unserved_conduit-clause-among : goal.returns-in-Some-first_unserved_conduit-clause-among
returns-in-Some-first_unserved_conduit-clause-among c = (c.in-Some-first_unserved_conduit.ensures _ _ c.requires.figures.sums).0

pub returns-in-Some-first_open_edge-clause-verdict : goal.returns-in-Some-first_open_edge-clause-verdict
returns-in-Some-first_open_edge-clause-verdict c = (
  cap_by c.args.root.capacity c.args.caps.now,
  c.requires.figures.capacities,
  (
    rw c.deref.ensures.value at c.in_default.ensures,
    c.in_default-first_unbalanced.ensures _ _ c.requires.figures.sums,
    c.in_default-first_without_room.ensures _ _ c.requires.figures.sums c.requires.figures.sent,
    c.in_default-first_unserved_conduit.ensures _ _ c.requires.figures.sums,
    (found_of_cut c.requires.figures (Some (c.in-Some-first_open_edge.giver, c.in-Some-first_open_edge.taker)) c.in-Some-first_open_edge.ensures).2,
  ),
)

pub returns-clause-verdict : goal.returns-clause-verdict
returns-clause-verdict c = (
  cap_by c.args.root.capacity c.args.caps.now,
  c.requires.figures.capacities,
  rw c.compare.ensures
      (compared (cap_by c.args.root.capacity c.args.caps.now) (record {
        edges = rw c.deref.ensures.value at c.in_default.ensures;
        balance = c.in_default-first_unbalanced.ensures _ _ c.requires.figures.sums;
        room = c.in_default-first_without_room.ensures _ _ c.requires.figures.sums c.requires.figures.sent;
        service = c.in_default-first_unserved_conduit.ensures _ _ c.requires.figures.sums;
        closure = found_of_cut c.requires.figures None c.in_default-first_open_edge.ensures;
      })
      c.args.root.sent c.cut_value.result c.requires.figures.sent (value_of_cut c.requires.figures c.cut_value.result c.cut_value.ensures)),
)
