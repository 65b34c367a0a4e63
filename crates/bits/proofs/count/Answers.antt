use mathlib.Core.Path.{◌≡◌, refl, ap, ◌∙◌}
use Prim.Native.Nat.{ℕ, ◌*◌, ◌≤◌, zero-le}
use native.Mathlib.Omega.{arith}
use lib.Count.{ones, ones-le}
use lib.ListN.{get_or}
use Rattle.sets.specs.Sets.{count}
use Rattle.sets.proofs.Counting.{count≤}
use Rattle.bits.specs.Sets.{member}
use Rattle.bits.proofs.Laws.{count_turn}
use Rattle.bits.proofs.count.Goals as goal

all_words : {w : ℕ} → w ≤ 8 → 8 ≤ w → w ≡ 8
all_words h l = omega arith

pub loop-w-init : goal.loop-w-init
unfolding count
loop-w-init c = (zero-le, refl)

pub overflow_cast-n : goal.overflow_cast-n
overflow_cast-n c =
    omega (
      arith,
      ones-le 64 (get_or c.args.set.now c.loop-w.w 0)
          (c.shared_slice_known-1.given c.loop-w.w).fits,
      ap ones c.word.ensures,
    )

pub overflow_add-n : goal.overflow_add-n
overflow_add-n c =
    let at-loop = c.loop-w in
    omega (
      arith,
      ones-le 64 (get_or c.args.set.now at-loop.w 0) (c.shared_slice_known-1.given at-loop.w).fits,
      ap ones c.word.ensures,
      count≤ (64 * at-loop.w) (member c.args.set.now),
    )

pub loop-w-smaller : goal.loop-w-smaller
loop-w-smaller c = omega arith

pub loop-w-preserved : goal.loop-w-preserved
loop-w-preserved c =
    let s = c.args.set.now in
    let l = c.loop-w in
    (omega arith, count_turn s l.w (c.shared_slice_known-1.given l.w).fits c.word.ensures l.invariant.1)

pub returns : goal.returns
returns c =
    let l = c.loop-w in
    l.invariant.1 ∙ ap (λ (x : ℕ). count (64 * x) (member c.args.set.now)) (all_words l.invariant.0 c.loop-w-test.false)
