use Rattle.sets.proofs.Some.{some_goes_on, some_found, some_end}
use Rattle.conflict.proofs.some_both_in.Goals as goal

pub returns-then-both_in : goal.returns-then-both_in
returns-then-both_in c =
    some_found _ c.loop-a.a _
    c.loop-a-test.true c.both_in.ensures c.if-both_in.true c.loop-a.invariant

pub loop-a-preserved : goal.loop-a-preserved
loop-a-preserved c =
    some_goes_on _ c.loop-a.a _
    c.loop-a-test.true c.both_in.ensures c.if-both_in.false c.loop-a.invariant

pub returns : goal.returns
returns c =
    some_end _ c.loop-a.a c.loop-a-test.false c.loop-a.invariant
