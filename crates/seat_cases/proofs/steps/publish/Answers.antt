use Rattle.turn_book.proofs.Suits.{frozen_suits, suits_later}
use Rattle.seat_cases.proofs.steps.publish.Goals as goal

pub publish-requires-clause-candidate : goal.publish-requires-clause-candidate
publish-requires-clause-candidate g c =
    let frozen = c.in-Ok.ensures.graph in
    let before = frozen.0 in
    suits_later _ _ c.in_ok-candidate.candidate c.in_ok-answer.ensures.later
    (frozen_suits before _ _ _ c.in_ok-candidate.candidate frozen.1 frozen.2.ends c.in_ok-candidate.ensures.graph)
