use native.Mathlib.Omega.{arith}
use Rattle.decimals.proofs.Laws.{length_small, length_more, length_at_most, length_some}
use Rattle.decimals.proofs.decimal_length.Goals as goal

pub loop-left-init : goal.loop-left-init
loop-left-init c =
    omega arith

pub overflow_add-digits : goal.overflow_add-digits
overflow_add-digits c =
    omega (arith, c.loop-left.invariant, length_at_most c.args.n, length_some c.loop-left.left, c.requires)

pub loop-left-preserved : goal.loop-left-preserved
loop-left-preserved c =
    omega (arith, c.loop-left.invariant, length_more c.loop-left.left c.loop-left-test.true)

pub returns : goal.returns
returns c =
    omega (arith, c.loop-left.invariant, length_small c.loop-left.left c.loop-left-test.false)
