use mathlib.Core.Path.{refl, sym}
use native.Mathlib.Omega.{arith}
use Rattle.bits.specs.Sets.{member}
use Rattle.bits.proofs.Laws.{member_past}
use Rattle.bits.proofs.has.Goals as goal

pub returns-then-w-set : goal.returns-then-w-set
unfolding member
returns-then-w-set c = refl

pub returns-else-w-set : goal.returns-else-w-set
returns-else-w-set c = sym (member_past c.args.set.now c.args.i (omega arith))
