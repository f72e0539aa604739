use Rattle.std.proofs.Common.{rules, arith}
use Rattle.cut_check.proofs.Values.{one_more_share, value_of_all}
use Rattle.cut_check.proofs.sides.cut_value.Goals as goal

pub loop-at-init : goal.loop-at-init
loop-at-init c = record { sums = omega (arith, c.root_share-value.ensures.share); small = omega arith }

pub loop-at-preserved : goal.loop-at-preserved
loop-at-preserved c = one_more_share c.loop-at.invariant c.account_share-value.result (search rules) c.account_share-value.ensures.small

pub returns : goal.returns
returns c = λ g all. value_of_all c.loop-at.invariant g (omega arith)
