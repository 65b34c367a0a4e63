use mathlib.Core.Path.{refl, sym}
use native.Mathlib.Omega.{arith}
use lib.Bits.{bit_xor}
use Rattle.bits.specs.Sets.{changed}
use Rattle.bits.proofs.Bit.{one_shifted}
use Rattle.bits.proofs.Laws.{changed_past}
use Rattle.bits.proofs.flip.Goals as goal

pub returns-then-w-set : goal.returns-then-w-set
unfolding changed
returns-then-w-set c = rw (one_shifted c.args.i) refl

pub returns-else-w-set : goal.returns-else-w-set
returns-else-w-set c = sym (changed_past bit_xor c.args.set.now c.args.i (omega arith))
