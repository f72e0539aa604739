use Rattle.std.proofs.Common.{arith}
use Rattle.site_lines.proofs.Marking.{marked-none, marked-more, marked-same, marked-all, increasing}
use Rattle.site_lines.proofs.seeds.marked.Goals as goal
use Rattle.site_lines.proofs.seeds.marked.Goals.{then-flag+in_ok-push, else-flag}

pub loop-account-init : goal.loop-account-init
loop-account-init c = marked-none c.args.flags.now _ c.new-accounts.ensures.items

pub loop-account-preserved : goal.loop-account-preserved
loop-account-preserved c = elim c.if-flag.branch [
  | then-flag+in_ok-push w ↦ rw (w.accounts-is, w.in_ok-push.ensures.items) (marked-more _ _ _ c.loop-account.invariant w.if-flag.true)
  | else-flag w ↦ rw w.accounts-is (marked-same _ _ _ c.loop-account.invariant w.if-flag.false)
]

pub returns-clause-rises : goal.returns-clause-rises
returns-clause-rises c = increasing _ c.loop-account.invariant.rises

pub returns-clause-just : goal.returns-clause-just
returns-clause-just c = marked-all _ _ _ c.loop-account.invariant (omega (arith, c.loop-account-test.false))
