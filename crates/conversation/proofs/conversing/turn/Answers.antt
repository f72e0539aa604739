use Rattle.std.proofs.Common.{refl, rules}
use Rattle.http_requests.proofs.Asking.{refuses-by-status, uses-some}
use Rattle.conversation.proofs.Ending.{broken, ended_empty, ended_inside, talk_heard, wanted_here}
use Rattle.conversation.proofs.conversing.turn.Goals as goal

pub skip-requires : goal.skip-requires
skip-requires g c = (uses-some _ c.in-Request.asked c.in-Request.used c.in-Request.ensures.hears.0).1

pub refuse-requires : goal.refuse-requires
refuse-requires g c = refuses-by-status c.hear.new.inbox c.in-Bad.status c.in-Bad.ensures.hears.0

pub returns-in-Request-clause-goes : goal.returns-in-Request-clause-goes
returns-in-Request-clause-goes g c = λ before k.
    let on = talk_heard before _ _ _ _ _ _ k _ _ c.in-Request.ensures.reads c.in-Request.ensures.hears.1.0 c.in-Request.ensures.hears.1.1 in
    rw c.skip.ensures (c.take_up.ensures.goes before _ on c.in-Request.ensures.hears.0)

pub returns-in-Bad-clause-goes : goal.returns-in-Bad-clause-goes
returns-in-Bad-clause-goes g c = λ before k.
    let on = talk_heard before _ _ _ _ _ _ k _ _ c.in-Bad.ensures.reads c.in-Bad.ensures.hears.1.0 c.in-Bad.ensures.hears.1.1 in
    c.refuse.ensures before _ _ _ _ on c.in-Bad.ensures.hears.0 c.requires.room

pub returns-then-is_empty-clause-goes : goal.returns-then-is_empty-clause-goes
returns-then-is_empty-clause-goes g c = λ before k.
    ended_empty before _ _ _ _ _ _ k _ _ c.in-End.ensures.reads c.requires.room c.in-End.ensures.hears.1 c.in-End.ensures.hears.2 c.in-End.ensures.hears.3 (search rules)

pub returns-else-is_empty-clause-goes : goal.returns-else-is_empty-clause-goes
returns-else-is_empty-clause-goes g c = λ before k.
    ended_inside before _ _ _ _ _ _ k _ _ c.in-End.ensures.reads c.requires.room c.in-End.ensures.hears.1 c.in-End.ensures.hears.2 c.in-End.ensures.hears.3 (λ e. search rules) c.in-End.ensures.hears.0

pub returns-in-Fault-clause-goes : goal.returns-in-Fault-clause-goes
returns-in-Fault-clause-goes g c = λ before k. broken before _ _ _ _ _ _ k _ _ c.in-Fault.ensures.reads c.requires.room c.in-Fault.ensures.hears.0 c.in-Fault.ensures.hears.1

pub returns-in-NoMemory-clause-goes : goal.returns-in-NoMemory-clause-goes
returns-in-NoMemory-clause-goes g c = λ before k.
    let on = talk_heard before _ _ _ _ _ _ k _ _ c.in-NoMemory.ensures.reads c.in-NoMemory.ensures.hears.0 c.in-NoMemory.ensures.hears.1 in
    wanted_here before _ _ _ _ _ _ on _ refl refl
