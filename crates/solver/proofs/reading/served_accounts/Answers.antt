use Rattle.std.proofs.Common.{ℕ, ◌≡◌, ◌+◌, arith, refl, sym, subst, ◌∙◌}
use Rattle.std.proofs.lemmas.Bool.{eqb-true, eqb-false}
use Rattle.trust_types.specs.Flow.{Flow, IsServed, is_served, units_in, units_out}
use Rattle.trust_types.specs.declared.accounts.Node.TheVariants.{Account}
use Rattle.flow_engine.specs.Solved.{flow_in}
use Rattle.solver.specs.inner.Listing.{ListsBelow}
use Rattle.solver.proofs.Listing.{lists_more, lists_past}
use Rattle.solver.proofs.reading.served_accounts.Goals as goal
use Rattle.solver.proofs.reading.served_accounts.Goals.{then-served+in_ok-push, else-served}

pub loop-number-preserved : goal.loop-number-preserved
loop-number-preserved c =
    let f : Flow = flow_in c.args.workspace.now in
    let a : ℕ = c.loop-number.number in
    let is : c.served.result ≡ is_served c.args.accounts f a = subst (λ (n : ℕ). c.served.result ≡ is_served n f a) (sym c.requires) c.served.ensures in
    let into : ℕ = units_in c.args.accounts f a in
    let out : ℕ = units_out c.args.accounts f (Account a) in
    elim c.if-served.branch [
      | then-served+in_ok-push w ↦
          let so : IsServed c.args.accounts f a = eqb-true into (out + 1) (sym is ∙ w.if-served.true) in
          rw (w.served-is, w.in_ok-push.ensures.items)
          (lists_more (λ (x : ℕ). x) (IsServed c.args.accounts f) (λ x y same. same) a c.loop-number.served.items a c.loop-number.invariant refl so)
      | else-served w ↦
          let not_so : ¬ (IsServed c.args.accounts f a) = eqb-false into (out + 1) (sym is ∙ w.if-served.false) in
          rw w.served-is
          (lists_past (λ (x : ℕ). x) (IsServed c.args.accounts f) (λ x y same. same) a c.loop-number.served.items a c.loop-number.invariant refl not_so)
    ]

pub returns : goal.returns
returns c =
    let end : c.loop-number.number ≡ c.args.accounts = omega arith in
    subst (λ (n : ℕ). ListsBelow (λ (a : ℕ). a) (IsServed c.args.accounts (flow_in c.args.workspace.now)) n c.loop-number.served.items) end c.loop-number.invariant
