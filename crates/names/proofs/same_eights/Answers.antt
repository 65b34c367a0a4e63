use mathlib.Core.Path.{◌≡◌}
use Prim.Native.Nat.{◌*◌, ◌+◌}
use native.Mathlib.Omega.{arith}
use Rattle.names.proofs.Eights.{none_same, eights_differ, eight_more, eights_decide}
use Rattle.names.proofs.same_eights.Goals as goal

pub loop-k-init : goal.loop-k-init
loop-k-init c =
    (omega arith, none_same c.args.sheet.now c.args.a c.args.b)

pub returns-then-eight : goal.returns-then-eight
returns-then-eight c =
    eights_differ c.args.sheet.now (λ j. omega (arith, c.shared_slice_known-1.given j)) c.args.a
    c.args.b c.args.n (8 * c.loop-k.k) c.eight.result c.eight-in-loop-k.result
    (omega arith) c.eight.ensures c.eight-in-loop-k.ensures c.if-eight.true

pub loop-k-preserved : goal.loop-k-preserved
loop-k-preserved c = (
  omega arith,
  let e : 8 * (c.loop-k.k + 1) ≡ 8 * c.loop-k.k + 8 = omega arith in
      rw e (eight_more c.args.sheet.now (λ j. omega (arith, c.shared_slice_known-1.given j))
      c.args.a c.args.b c.args.n (8 * c.loop-k.k) c.eight.result
      c.eight-in-loop-k.result c.eight.ensures c.eight-in-loop-k.ensures c.if-eight.false c.loop-k.invariant.1),
)

pub returns : goal.returns
returns c =
    eights_decide c.args.sheet.now (λ j. omega (arith, c.shared_slice_known-1.given j)) c.args.a
    c.args.b c.args.n (8 * c.loop-k.k) c.eight-2.result c.eight-3.result
    c.requires.le_n (omega arith) c.eight-2.ensures c.eight-3.ensures c.loop-k.invariant.1
