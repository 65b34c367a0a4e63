use mathlib.Core.Path.{refl, sym, ap, ◌∙◌}
use native.Mathlib.Omega.{arith}
use lib.ListN.{length}
use lib.Seq.{sets}
use Rattle.reasons.proofs.Growing.{sheet_start, length_next, next_fits, next_put}
use Rattle.reasons.proofs.put_sheet.Goals as goal

pub loop-l-init : goal.loop-l-init
loop-l-init c =
    (sym (ap length (sheet_start _)), sym (ap (sets _ 0) (sheet_start _)))

pub put_if-at-requires : goal.put_if-at-requires
put_if-at-requires c = (
  omega (arith, c.loop-l-test.true, c.requires.0),
  next_fits _ c.args.text.now c.loop-l.l _ c.loop-l-test.true c.requires.1 c.loop-l.invariant.0 c.loop-l.invariant.1,
)

pub loop-l-preserved : goal.loop-l-preserved
loop-l-preserved c = (
  c.put_if-at.ensures.value ∙ length_next _ _ c.loop-l.invariant.0 refl,
  next_put _ c.args.text.now c.loop-l.l _ c.loop-l-test.true c.requires.1 c.loop-l.invariant.0 c.loop-l.invariant.1
      c.put_if-at.ensures.text_is,
)
