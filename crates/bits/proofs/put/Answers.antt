use mathlib.Core.Path.{refl, sym}
use native.Mathlib.Omega.{arith}
use Rattle.bits.specs.Sets.{changed}
use Rattle.bits.proofs.Bit.{one_shifted}
use Rattle.bits.proofs.Laws.{put_in_past}
use Rattle.bits.proofs.put.Goals as goal

pub returns-then-w-set : goal.returns-then-w-set
unfolding changed
returns-then-w-set c = rw (one_shifted c.args.i) refl

pub returns-else-w-set : goal.returns-else-w-set
returns-else-w-set c = sym (put_in_past c.args.set.now c.args.i (omega arith))
