use native.Mathlib.Omega.{arith}
use Rattle.waiting.proofs.Waking.{none_below, one_more_below}
use Rattle.waiting.proofs.all_below.Goals as goal

pub loop-i-init : goal.loop-i-init
loop-i-init c = none_below

pub loop-i-preserved : goal.loop-i-preserved
loop-i-preserved c =
    one_more_below (omega (arith, c.requires, c.loop-i-test.true)) c.loop-i.invariant c.put.ensures
