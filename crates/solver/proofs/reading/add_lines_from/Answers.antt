use Rattle.std.proofs.Common.{ℕ, ◌≡◌, ◌<◌, length, false, refl, sym, ap, ◌∙◌, arith}
use Rattle.std.proofs.lemmas.List.{get_or_default}
use Rattle.trust_types.specs.declared.accounts.Node.TheVariants.{Account}
use Rattle.trust_types.specs.Flow.{Flow, is_served}
use Rattle.frozen.specs.Sites.{Parts, accounts, taker}
use Rattle.flow_engine.specs.Solved.{flow_in}
use Rattle.solver.proofs.Writing.{row_none, row_more, row_unserved}
use Rattle.solver.proofs.reading.add_lines_from.Goals as goal

pub loop-i-init : goal.loop-i-init
loop-i-init c = row_none c.args.frozen.now.parts (flow_in c.args.workspace.now) c.args.giver c.args.lines.now.items c.requires.goes_along c.requires.written

pub loop-i-preserved : goal.loop-i-preserved
loop-i-preserved c =
    let f : Flow = flow_in c.args.workspace.now in
    let r : Parts = c.args.frozen.now.parts in
    let a : ℕ = c.args.giver in
    let i : ℕ = c.loop-i.i in
    let inside : i < length c.takers-takers.result.now = omega (arith, c.takers-takers.ensures.count) in
    rw c.in_ok-add_line.ensures
    (row_more r f a i c.loop-i.lines.items (record { from = Account a; to = c.index-takers-i.result; units = c.units.result }) c.requires.readers c.requires.giver (omega arith)
    c.loop-i.invariant refl (c.index-takers-i.is ∙ get_or_default _ i _ 0 inside ∙ c.takers-takers.ensures.each i (omega arith))
    (c.units.ensures ∙ ap (λ (r : Parts). f (Account a) (taker r a i)) c.requires.rows))

pub returns-then-not-served : goal.returns-then-not-served
returns-then-not-served c =
    let f : Flow = flow_in c.args.workspace.now in
    let r : Parts = c.args.frozen.now.parts in
    let unserved : is_served (accounts r) f c.args.giver ≡ false = sym (rw c.requires.rows at c.served.ensures) ∙ c.if-not-served.true in
    row_unserved r f c.args.giver c.args.lines.now.items c.requires.readers c.requires.goes_along c.requires.conduits c.requires.giver unserved c.requires.written
