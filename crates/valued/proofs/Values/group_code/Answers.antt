use native.Mathlib.Omega.{arith}
use Rattle.valued.proofs.Valuing.{in_group, group_start, group_turn, group_over}
use Rattle.valued.proofs.Values.group_code.Goals as goal

pub loop-l-init : goal.loop-l-init
loop-l-init c = (omega arith, group_start _ c.args.group.now)

pub literal_code-requires : goal.literal_code-requires
literal_code-requires c = c.requires _ (in_group _ c.loop-l.l-index c.loop-l-test.true)

pub loop-l-preserved : goal.loop-l-preserved
loop-l-preserved c = (
  omega (arith, c.min-low.ensures, c.loop-l.invariant.0),
  group_turn _ c.args.group.now c.loop-l.l-index _ _ _ _ c.loop-l-test.true c.literal_code.ensures c.min-low.ensures c.loop-l.invariant.1,
)

pub returns : goal.returns
returns c = group_over _ c.args.group.now c.loop-l.l-index _ _ c.loop-l-test.false c.loop-l.invariant.0 c.loop-l.invariant.1
