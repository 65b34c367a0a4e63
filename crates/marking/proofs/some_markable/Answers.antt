use Rattle.sets.proofs.Some.{some_goes_on, some_found, some_end}
use Rattle.marking.proofs.some_markable.Goals as goal

pub returns-then-is_markable : goal.returns-then-is_markable
returns-then-is_markable c =
    some_found _ c.loop-a.a _
    c.loop-a-test.true c.is_markable.ensures c.if-is_markable.true c.loop-a.invariant

pub loop-a-preserved : goal.loop-a-preserved
loop-a-preserved c =
    some_goes_on _ c.loop-a.a _
    c.loop-a-test.true c.is_markable.ensures c.if-is_markable.false c.loop-a.invariant

pub returns : goal.returns
returns c =
    some_end _ c.loop-a.a c.loop-a-test.false c.loop-a.invariant
