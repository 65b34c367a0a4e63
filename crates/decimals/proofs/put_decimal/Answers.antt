use mathlib.Core.Path.{refl, ap, ◌∙◌}
use Prim.Native.Nat.{◌+◌}
use native.Mathlib.Omega.{arith}
use lib.ListN.{length-set}
use Rattle.decimals.proofs.Laws.{length_more, length_some}
use Rattle.decimals.proofs.Stores.{digits_turn, last_digit}
use Rattle.decimals.proofs.put_decimal.Goals as goal

pub overflow_add-whole : goal.overflow_add-whole
overflow_add-whole c =
    omega (arith, c.decimal_length.ensures, c.requires.1)

pub loop-left-init : goal.loop-left-init
loop-left-init c =
    (refl, omega (arith, c.decimal_length.ensures), omega (arith, c.decimal_length.ensures, c.requires.1), refl)

pub overflow_sub-end : goal.overflow_sub-end
overflow_sub-end c =
    omega (arith, c.loop-left.invariant.1, length_some c.loop-left.left)

pub bounds-text-end : goal.bounds-text-end
bounds-text-end c =
    omega (
      arith,
      c.loop-left.invariant.0,
      c.loop-left.invariant.1,
      c.loop-left.invariant.2,
      length_some
          c.loop-left.left,
    )

pub loop-left-preserved : goal.loop-left-preserved
loop-left-preserved c = (
  length-set c.loop-left.text _ _ ∙ c.loop-left.invariant.0,
  omega (arith, c.loop-left.invariant.1, length_more c.loop-left.left c.loop-left-test.true),
  omega (arith, c.loop-left.invariant.2),
  digits_turn c.loop-left.text c.args.at c.loop-left.left c.loop-left.end _
      c.loop-left-test.true c.loop-left.invariant.1 c.digit_byte.ensures c.loop-left.invariant.3,
)

pub bounds-text-at : goal.bounds-text-at
bounds-text-at c =
    omega (
      arith,
      c.loop-left.invariant.0,
      c.loop-left.invariant.1,
      c.loop-left.invariant.2,
      length_some
          c.loop-left.left,
    )

pub shape_of-text : goal.shape_of-text
shape_of-text c =
    length-set c.loop-left.text _ _ ∙ c.loop-left.invariant.0

pub returns : goal.returns
returns c =
    record {
      value = ap (λ x. c.args.at + x) c.decimal_length.ensures;
      text_is = last_digit c.loop-left.text c.args.at c.loop-left.left _ c.loop-left-test.false c.digit_byte-2.ensures
          c.loop-left.invariant.3;
    }
