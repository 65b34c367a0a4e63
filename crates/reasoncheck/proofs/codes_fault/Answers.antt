use native.Mathlib.Omega.{arith}
use mathlib.Core.Path.{◌∙◌}
use Rattle.reasoncheck.proofs.Checks.{code_good, code_bad, code_end}
use Rattle.reasoncheck.proofs.codes_fault.Goals as goal

pub returns-then-values-a-gt3 : goal.returns-then-values-a-gt3
returns-then-values-a-gt3 c =
    c.refused.ensures ∙ code_bad _ _ _ c.loop-a-test.true c.requires c.if-values-a-gt3.true c.loop-a.invariant

pub loop-a-preserved : goal.loop-a-preserved
loop-a-preserved c =
    code_good _ _ _ c.loop-a-test.true c.requires (omega (arith, c.if-values-a-gt3.false)) c.loop-a.invariant

pub returns : goal.returns
returns c =
    code_end _ _ _ c.loop-a-test.false c.requires c.loop-a.invariant
