use mathlib.Core.Path.{sym, ap}
use native.Mathlib.Omega.{arith}
use lib.ListN.{length}
use Rattle.reasons.proofs.Growing.{sheet_start, length_next}
use Rattle.reasons.proofs.sheet_length.Goals as goal

pub loop-l-init : goal.loop-l-init
loop-l-init c =
    (sym (ap length (sheet_start _)), omega arith)

pub loop-l-preserved : goal.loop-l-preserved
loop-l-preserved c = (
  length_next _ _ c.loop-l.invariant.0 c.length_if-total.ensures.0,
  omega (arith, c.loop-l.invariant.1, c.length_if-total.ensures.1),
)
