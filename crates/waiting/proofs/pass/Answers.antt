use mathlib.Core.Path.{sym, ◌∙◌}
use native.Mathlib.Omega.{arith}
use Rattle.waiting.proofs.Waking.{found_below}
use Rattle.waiting.proofs.Awake.{none_left, next_below, next_further, next_looked_at, taken_out, pass_ends}
use Rattle.waiting.proofs.pass.Goals as goal

pub look-requires : goal.look-requires
look-requires c =
    let awake = c.loop-i.invariant.awake in
    (awake, next_below awake c.loop-i-test.true (sym c.in-Some.is ∙ c.lowest_from.ensures))

pub overflow_add-i : goal.overflow_add-i
overflow_add-i c =
    omega (arith, found_below _ c.loop-i-test.true (sym c.in-Some.is ∙ c.lowest_from.ensures))

pub loop-i-smaller : goal.loop-i-smaller
loop-i-smaller c =
    omega (arith, next_further c.loop-i.invariant.awake c.loop-i-test.true (sym c.in-Some.is ∙ c.lowest_from.ensures), c.loop-i-test.true)

pub loop-i-preserved : goal.loop-i-preserved
loop-i-preserved c =
    let awake = c.loop-i.invariant.awake in
    let found = sym c.in-Some.is ∙ c.lowest_from.ensures in record {
      awake = taken_out awake (next_below awake c.loop-i-test.true found) c.look.ensures.found_after c.look.ensures.awake c.remove.ensures;
      same = next_looked_at awake c.loop-i-test.true found c.look.ensures.found_after ∙ c.loop-i.invariant.same;
    }

pub returns-in-None-clause-found_after : goal.returns-in-None-clause-found_after
returns-in-None-clause-found_after c =
    let awake = c.loop-i.invariant.awake in
    let left = none_left awake c.loop-i-test.true (sym c.in-None.is ∙ c.lowest_from.ensures) in
    pass_ends {i = 1024} (omega arith) (record { awake = awake; same = left ∙ c.loop-i.invariant.same })

pub returns-clause-found_after : goal.returns-clause-found_after
returns-clause-found_after c =
    pass_ends c.loop-i-test.false c.loop-i.invariant
