use mathlib.Core.Path.{refl, sym, ◌∙◌}
use native.Mathlib.Omega.{arith}
use Rattle.waiting.proofs.Waking.{found_from, found_below, woke_none, woke_on, woke_next, woke_last, woke_all}
use Rattle.waiting.proofs.wake.Goals as goal

pub loop-h-init : goal.loop-h-init
loop-h-init c =
    woke_none _ _ c.requires.0

pub offset_bounds-order-l : goal.offset_bounds-order-l
offset_bounds-order-l c =
    omega (arith, found_below _ c.loop-h-test.true (sym c.in-Some.is ∙ c.lowest_from.ensures))

pub bounds-order-l : goal.bounds-order-l
bounds-order-l c =
    found_below _ c.loop-h-test.true (sym c.in-Some.is ∙ c.lowest_from.ensures)

pub overflow_add-h : goal.overflow_add-h
overflow_add-h c =
    omega (arith, found_below _ c.loop-h-test.true (sym c.in-Some.is ∙ c.lowest_from.ensures))

pub loop-h-smaller : goal.loop-h-smaller
loop-h-smaller c =
    omega (arith, found_from _ c.loop-h-test.true (sym c.in-Some.is ∙ c.lowest_from.ensures), c.loop-h-test.true)

pub loop-h-preserved : goal.loop-h-preserved
loop-h-preserved c =
    woke_on _ _ c.loop-h.invariant
    (woke_next _ _ _ c.loop-h-test.true c.loop-h.invariant.row c.requires.1 (sym c.in-Some.is ∙ c.lowest_from.ensures) refl c.put.ensures)

pub returns-in-None : goal.returns-in-None
returns-in-None c =
    woke_on _ _ c.loop-h.invariant
    (woke_last _ _ _ c.loop-h-test.true c.loop-h.invariant.row (sym c.in-None.is ∙ c.lowest_from.ensures))

pub returns : goal.returns
returns c =
    woke_all _ _ c.loop-h-test.false c.loop-h.invariant
