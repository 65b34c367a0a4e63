use mathlib.Core.Path.{refl}
use native.Mathlib.Omega.{arith}
use Rattle.valued.proofs.Valuing.{this_group, this_below, ored_on, ored_all, ored_skipped}
use Rattle.valued.proofs.ValuedRecord.groups_code.Goals as goal

pub group_at-group-requires : goal.group_at-group-requires
group_at-group-requires c = this_group _ c.loop-i.invariant (omega (arith, c.loop-i-test.true))

pub group_code-requires : goal.group_code-requires
group_code-requires c = this_below _ c.loop-i.invariant (omega (arith, c.loop-i-test.true)) c.group_at-group.ensures

pub loop-i-preserved : goal.loop-i-preserved
loop-i-preserved c =
    ored_on _ c.loop-i.invariant (omega (arith, c.loop-i-test.true)) c.group_at-group.ensures c.group_code.ensures c.max-high.ensures refl
    (omega arith)

pub returns : goal.returns
returns c =
    record {
      code_value = ored_all _ c.loop-i.invariant (omega (arith, c.loop-i-test.false));
      groups_skipped = ored_skipped _ c.loop-i.invariant (omega (arith, c.loop-i-test.false));
    }
