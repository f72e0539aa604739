use Rattle.std.proofs.Common.{ℕ, ◌+◌, ◌-◌, ◌<◌, ◌≡◌, arith, ap, sym, subst, length, get_or, take}
use Rattle.flow_engine.specs.inner.Reached.{Reached, layer_of}
use Rattle.flow_engine.specs.inner.Ways.{IsServedOn, pass, used}
use Rattle.flow_engine.specs.Solved.{unreached}
use Rattle.flow_engine.proofs.Growing.{below_at}
use Rattle.flow_engine.proofs.Pushing.{deep-low}
use Rattle.flow_engine.proofs.Lasts.{Left, served-left, one-left}
use Rattle.flow_engine.proofs.serving.pass_back.Goals as goal

pub returns-then-way-gt1-clause-served : goal.returns-then-way-gt1-clause-served
returns-then-way-gt1-clause-served c =
    let l : Left = record { a = c.args.residual.now.arcs; deep = c.args.deep; s = c.args.search.now; way = c.args.way.now; left = length c.args.way.now - 1; are = c.requires.stands.arcs; serving = c.requires.serving; on = c.requires.on; number = omega (arith, c.requires.some); more = omega (arith, c.if-way-gt1.true); spent = c.requires.spent } in
    let at : length l.way - 1 - 1 ≡ length l.way - 2 = omega arith in
    subst (λ (q : Reached). IsServedOn l.a l.deep l.s q (take (length l.way - 1) l.way)) (sym c.pass.ensures)
    (subst (λ (k : ℕ). IsServedOn l.a l.deep l.s (pass (get_or l.way k 0) l.s) (take (length l.way - 1) l.way)) at (served-left l))

pub returns-then-way-gt1-clause-used : goal.returns-then-way-gt1-clause-used
returns-then-way-gt1-clause-used c =
    let l : Left = record { a = c.args.residual.now.arcs; deep = c.args.deep; s = c.args.search.now; way = c.args.way.now; left = length c.args.way.now - 1; are = c.requires.stands.arcs; serving = c.requires.serving; on = c.requires.on; number = omega (arith, c.requires.some); more = omega (arith, c.if-way-gt1.true); spent = c.requires.spent } in
    let at : length l.way - 1 - 1 ≡ length l.way - 2 = omega arith in
    let one : used l.a l.deep (pass (get_or l.way (length l.way - 2) 0) l.s) ≡ used l.a l.deep l.s + 1 = subst (λ (k : ℕ). used l.a l.deep (pass (get_or l.way k 0) l.s) ≡ used l.a l.deep l.s + 1) at (one-left l) in
    omega (arith, ap (used l.a l.deep) c.pass.ensures, one, c.if-way-gt1.true)

pub pass-requires-clause-fits : goal.pass-requires-clause-fits
pass-requires-clause-fits c =
    let s : Reached = c.args.search.now in
    let k : ℕ = length c.args.way.now - 2 in
    let v : ℕ = get_or c.args.way.now k 0 in
    let on = c.requires.on in
    let arcs = c.requires.stands.arcs in
    let more : k + 1 < length c.args.way.now = omega (arith, c.if-way-gt1.true) in
    let is : layer_of s v < unreached = omega (arith, on.layers k (omega (arith, more)), on.short, more, deep-low c.args.residual.now.arcs c.args.deep s arcs c.requires.serving) in
    omega (arith, on.row k more, arcs.first_within (v + 1) (omega (arith, below_at c.args.residual.now.arcs s v c.requires.serving.reached is)), arcs.few)
