use native.Mathlib.Omega.{arith}
use mathlib.Core.Path.{refl}
use Rattle.evaluation.proofs.Rounds.{none_marked, marked_more}
use Rattle.evaluation.proofs.Unsettled.mark_all.Goals as goal

pub loop-a-init : goal.loop-a-init
loop-a-init c = none_marked _ _

pub loop-a-preserved : goal.loop-a-preserved
loop-a-preserved c =
    marked_more _ _ _ _ _ _ _ _ (omega arith) (omega arith) c.loop-a.invariant c.mark_one-any.ensures.value c.mark_one-any.ensures.marked refl
