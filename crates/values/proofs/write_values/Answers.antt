use native.Mathlib.Omega.{arith}
use mathlib.Core.Path.{refl, ◌∙◌}
use lib.ListN.{length-set}
use Rattle.values.proofs.Written.{writes_nothing, writes_one, writes_all}
use Rattle.values.proofs.write_values.Goals as goal

pub loop-a-init : goal.loop-a-init
loop-a-init c =
    (omega arith, refl, writes_nothing _ _)

pub loop-a-preserved : goal.loop-a-preserved
loop-a-preserved c = (
  omega arith,
  length-set c.loop-a.values c.loop-a.a c.value_code.result ∙ c.loop-a.invariant.1,
  writes_one _ c.loop-a.a
      c.value_code.result c.args.values.now c.loop-a.values (omega (arith, c.requires.1)) c.value_code.ensures c.loop-a.invariant.2,
)

pub returns : goal.returns
returns c =
    writes_all _ c.loop-a.a c.args.n _ _ c.loop-a.invariant.0 c.loop-a-test.false c.loop-a.invariant.2
