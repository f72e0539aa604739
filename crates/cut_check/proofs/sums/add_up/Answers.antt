use Rattle.std.proofs.Common.{arith, length}
use Rattle.std.proofs.lemmas.Grind.{common_steps}
use Rattle.cut_check.proofs.Adding.{next_line, none_added, into_fits, out_of_root_fits, out_fits, root_line_added, account_line_added}
use Rattle.cut_check.proofs.sums.add_up.Goals as goal
use Rattle.cut_check.proofs.sums.add_up.Goals.{in-Root, in-Account}

pub loop-line-init : goal.loop-line-init
loop-line-init c =
    none_added (length c.args.into.now) c.args.flow.now c.fill.new.self c.fill-2.new.self c.fill.ensures.len
    (λ a below. grind (arith, common_steps)) (λ a below. grind (arith, common_steps))

pub overflow_add-into : goal.overflow_add-into
overflow_add-into c =
    let next = next_line c.loop-line-test.true c.line-item.is c.requires.rises c.requires.lines (omega arith) in
    rw (c.index.ensures, c.from-units.ensures) (omega (arith, into_fits c.loop-line.invariant next c.requires.few))

pub overflow_add-out_of_root : goal.overflow_add-out_of_root
overflow_add-out_of_root c =
    let next = next_line c.loop-line-test.true c.line-item.is c.requires.rises c.requires.lines (omega arith) in
    rw c.from-units.ensures (omega (arith, out_of_root_fits c.loop-line.invariant next c.requires.few c.in-Root.is))

pub overflow_add-out : goal.overflow_add-out
overflow_add-out c =
    let next = next_line c.loop-line-test.true c.line-item.is c.requires.rises c.requires.lines (omega arith) in
    rw (c.index-in-Account.ensures, c.from-units.ensures)
    (omega (arith, out_fits c.loop-line.invariant next c.requires.few c.in-Account.from c.in-Account.is))

pub loop-line-preserved : goal.loop-line-preserved
loop-line-preserved c =
    let next = next_line c.loop-line-test.true c.line-item.is c.requires.rises c.requires.lines (omega arith) in
    elim c.match-line.branch [
      | in-Root w ↦ rw (w.out-is, w.out_of_root-is, c.index.ensures, c.from-units.ensures) (root_line_added c.loop-line.invariant next w.in-Root.is)
      | in-Account w ↦
          rw (w.out-is, w.out_of_root-is, w.index-in-Account.ensures, c.index.ensures, c.from-units.ensures)
          (account_line_added c.loop-line.invariant next w.in-Account.from w.in-Account.is (omega (arith, c.fill-2.ensures.len)))
    ]
