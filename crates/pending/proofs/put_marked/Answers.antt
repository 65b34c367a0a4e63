use native.Mathlib.Omega.{arith}
use mathlib.Core.Path.{ap, ◌∙◌}
use lib.ListN.{length}
use Rattle.bits.specs.Sets.{member}
use Rattle.pending.proofs.Marked.{marking_starts, marking_goes_on, marking_ends, length_pair}
use Rattle.pending.proofs.put_marked.Goals as goal

pub loop-a-init : goal.loop-a-init
loop-a-init c =
    (c.requires.0, marking_starts _ _)

pub loop-a-preserved : goal.loop-a-preserved
loop-a-preserved c = (
  ap length c.put_pair.ensures ∙ length_pair c.loop-a.set c.loop-a.a (member c.args.marks.now c.loop-a.a) ∙ c.loop-a.invariant.0,
  marking_goes_on _ _ _ _ _ c.loop-a.invariant.0 (omega arith) c.loop-a.invariant.1 c.put_pair.ensures,
)

pub returns : goal.returns
returns c =
    marking_ends _ _ _ _ c.requires.1 (omega arith) c.loop-a.invariant.1
