use Rattle.site_lines.proofs.Marking.{AreMarked}
use Rattle.site_lines.proofs.seeds.marked.Given as goal

abbrev pub invariant-loop-account : goal.invariant-loop-account
invariant-loop-account l = AreMarked l.flags l.account l.accounts.items
