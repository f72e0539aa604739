use Rattle.std.proofs.Common.{subst}
use Rattle.std.proofs.lemmas.Result.{IfOk-weaker}
use Rattle.roster_cell.proofs.Standing.{cached_later}
use Rattle.exchanges.specs.declared.wanted.Wanted.{Wanted}
use Rattle.exchanges.specs.inner.Wanted.{Wants}
use Rattle.exchanges.proofs.Asking.{is_fixed}
use Rattle.exchanges.proofs.Deciding.{fixed, goes}
use Rattle.exchanges.proofs.answering.answer.Goals as goal

pub returns-in-Status-clause-answers : goal.returns-in-Status-clause-answers
returns-in-Status-clause-answers g c =
    fixed c.args.seat.now c.args.request.now _ c.args.moment c.in-Status.status c.number-number.ensures.legal (subst (λ (w : Wanted). Wants c.args.request.now c.args.token.now w) c.in-Status.is c.in-Ok.ensures)

pub returns-in-Status-clause-page : goal.returns-in-Status-clause-page
returns-in-Status-clause-page g c =
    is_fixed c.args.request.now.route c.args.request.now.session c.in-Status.status (subst (λ (w : Wanted). Wants c.args.request.now c.args.token.now w) c.in-Status.is c.in-Ok.ensures)

pub returns-in-View-clause-cached : goal.returns-in-View-clause-cached
returns-in-View-clause-cached g c =
    let q = c.args.request.now in
    let held = c.args.cache.now in
    let w = subst (λ (w : Wanted). Wants q c.args.token.now w) c.in-View.is c.in-Ok.ensures in
    cached_later _ _ _ (goes c.look.result _ _ q c.args.token.now c.args.moment held (IfOk-weaker c.look.result _ _ (λ d h. h q c.args.token.now c.args.moment held w.0 w.1) c.look.ensures.ok) c.look.ensures.err) c.number-number.ensures.legal c.requires.cached

pub returns-in-View-clause-answers : goal.returns-in-View-clause-answers
returns-in-View-clause-answers g c =
    let q = c.args.request.now in
    let w = subst (λ (w : Wanted). Wants q c.args.token.now w) c.in-View.is c.in-Ok.ensures in
    IfOk-weaker c.look.result _ _ (λ d h. (h q c.args.token.now c.args.moment c.args.cache.now w.0 w.1).0) c.look.ensures.ok

pub returns-in-View-clause-page : goal.returns-in-View-clause-page
returns-in-View-clause-page g c =
    let q = c.args.request.now in
    let w = subst (λ (w : Wanted). Wants q c.args.token.now w) c.in-View.is c.in-Ok.ensures in
    IfOk-weaker c.look.result _ _ (λ d h. (h q c.args.token.now c.args.moment c.args.cache.now w.0 w.1).1) c.look.ensures.ok

pub returns-in-Act-clause-cached : goal.returns-in-Act-clause-cached
returns-in-Act-clause-cached g c =
    let q = c.args.request.now in
    let held = c.args.cache.now in
    let w = subst (λ (w : Wanted). Wants q c.args.token.now w) c.in-Act.is c.in-Ok.ensures in
    cached_later _ _ _ (goes c.enter.result _ _ q c.args.token.now c.args.moment held (IfOk-weaker c.enter.result _ _ (λ d h. h q c.args.token.now held w.0 w.1) c.enter.ensures.ok) c.enter.ensures.err) c.number-number.ensures.legal c.requires.cached

pub returns-in-Act-clause-answers : goal.returns-in-Act-clause-answers
returns-in-Act-clause-answers g c =
    let q = c.args.request.now in
    let w = subst (λ (w : Wanted). Wants q c.args.token.now w) c.in-Act.is c.in-Ok.ensures in
    IfOk-weaker c.enter.result _ _ (λ d h. (h q c.args.token.now c.args.cache.now w.0 w.1).0) c.enter.ensures.ok

pub returns-in-Act-clause-page : goal.returns-in-Act-clause-page
returns-in-Act-clause-page g c =
    let q = c.args.request.now in
    let w = subst (λ (w : Wanted). Wants q c.args.token.now w) c.in-Act.is c.in-Ok.ensures in
    IfOk-weaker c.enter.result _ _ (λ d h. (h q c.args.token.now c.args.cache.now w.0 w.1).1) c.enter.ensures.ok

pub returns-in-Roster-clause-answers : goal.returns-in-Roster-clause-answers
returns-in-Roster-clause-answers g c =
    let q = c.args.request.now in
    let w = subst (λ (w : Wanted). Wants q c.args.token.now w) c.in-Roster.is c.in-Ok.ensures in
    IfOk-weaker c.show.result _ _ (λ d h. (h q c.args.token.now c.args.moment w).0) c.show.ensures.ok

pub returns-in-Roster-clause-page : goal.returns-in-Roster-clause-page
returns-in-Roster-clause-page g c =
    let q = c.args.request.now in
    let w = subst (λ (w : Wanted). Wants q c.args.token.now w) c.in-Roster.is c.in-Ok.ensures in
    IfOk-weaker c.show.result _ _ (λ d h. (h q c.args.token.now c.args.moment w).1) c.show.ensures.ok
