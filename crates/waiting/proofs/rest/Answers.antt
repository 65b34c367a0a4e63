use native.Mathlib.Omega.{arith}
use Rattle.waiting.proofs.Numbering.{at_most_1024_rules}
use Rattle.waiting.proofs.Awake.{all_awake}
use Rattle.waiting.proofs.Turns.{passes_start, passes_go_on, passes_end, fewer_left}
use Rattle.waiting.proofs.rest.Goals as goal

pub all_below-waiting-requires : goal.all_below-waiting-requires
all_below-waiting-requires c =
    omega (arith, c.requires.numbered.count, at_most_1024_rules _ c.requires.index.table)

pub loop-again-init : goal.loop-again-init
loop-again-init c =
    (passes_start _ _ _ _ c.requires.fit, all_awake c.requires (rw (← c.requires.numbered.count) c.all_below-waiting.ensures))

pub loop-again-smaller : goal.loop-again-smaller
loop-again-smaller c =
    let below = c.requires.index.table.within.heads_below_lem in
    fewer_left _ _ _ _ below c.loop-again.invariant.0 c.pass.ensures.found_after c.loop-again-test.true

pub loop-again-preserved : goal.loop-again-preserved
loop-again-preserved c =
    let below = c.requires.index.table.within.heads_below_lem in
    (passes_go_on _ _ _ _ below c.loop-again.invariant.0 c.pass.ensures.found_after, c.pass.ensures.awake)

pub returns-clause-found_after : goal.returns-clause-found_after
returns-clause-found_after c =
    passes_end _ _ _ _ c.loop-again-test.false c.loop-again.invariant.0
