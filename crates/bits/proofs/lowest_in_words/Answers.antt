use mathlib.Core.Path.{sym, ◌∙◌}
use Prim.Native.Nat.{◌*◌, ◌-◌}
use native.Mathlib.Omega.{arith}
use lib.Count.{trailing_le}
use Rattle.bits.specs.Sets.{member}
use Rattle.bits.proofs.Least.{lowest_from_nothing}
use Rattle.bits.proofs.Laws.{none_in_zero, lowest_turn}
use Rattle.bits.proofs.lowest_in_words.Goals as goal

pub loop-w-init : goal.loop-w-init
loop-w-init c = (omega arith, c.requires, λ j a b. absurd (omega arith))

pub overflow_mul-result : goal.overflow_mul-result
overflow_mul-result c = omega arith

pub overflow_cast-result : goal.overflow_cast-result
overflow_cast-result c = omega (arith, trailing_le 64 c.word-x.result)

pub overflow_add-result : goal.overflow_add-result
overflow_add-result c = omega (arith, trailing_le 64 c.word-x.result)

pub returns-then-x-ne0 : goal.returns-then-x-ne0
returns-then-x-ne0 c =
    let at-shared-slice-known = c.shared_slice_known-1 in
    let l = c.loop-w in
    let first≤ = l.invariant.0 in
    lowest_turn c.args.set.now (1024 - 64 * c.args.first) (64 * c.args.first)
    l.w (omega arith) (omega arith) (at-shared-slice-known.given l.w).fits c.word-x.ensures c.if-x-ne0.true l.invariant.2

pub loop-w-smaller : goal.loop-w-smaller
loop-w-smaller c = omega arith

pub loop-w-preserved : goal.loop-w-preserved
loop-w-preserved c =
    let l = c.loop-w in
    let none = none_in_zero c.args.set.now (64 * c.args.first) l.w (sym c.word-x.ensures ∙ c.if-x-ne0.false) l.invariant.2 in
    (omega (arith, l.invariant.0), omega arith, none)

pub returns : goal.returns
returns c =
    let args = c.args in
    sym (lowest_from_nothing (1024 - 64 * args.first) (64 * args.first) (member args.set.now) (λ j a h. c.loop-w.invariant.2 j a (omega arith)))
