use Rattle.std.proofs.Common.{arith}
use Rattle.http_heads.proofs.Digits.{Step, step}
use Rattle.http_heads.proofs.bodies.digits_value.Goals as goal

pub overflow_mul-value : goal.overflow_mul-value
overflow_mul-value c =
    let next : Step c.args.digits.now c.loop-digit.digit-index c.loop-digit.value =
    step _ _ _ c.requires.digits c.requires.few c.loop-digit-test.true c.loop-digit.invariant.so_far c.loop-digit.invariant.small in
    omega (arith, next.fits)

pub overflow_add-value : goal.overflow_add-value
overflow_add-value c =
    let next : Step c.args.digits.now c.loop-digit.digit-index c.loop-digit.value =
    step _ _ _ c.requires.digits c.requires.few c.loop-digit-test.true c.loop-digit.invariant.so_far c.loop-digit.invariant.small in
    omega (arith, next.fits)

pub loop-digit-preserved : goal.loop-digit-preserved
loop-digit-preserved c =
    let next : Step c.args.digits.now c.loop-digit.digit-index c.loop-digit.value =
    step _ _ _ c.requires.digits c.requires.few c.loop-digit-test.true c.loop-digit.invariant.so_far c.loop-digit.invariant.small in
    record { so_far = next.is; small = next.small }
