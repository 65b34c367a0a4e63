use mathlib.Core.Path.{◌≡◌}
use Prim.Native.Nat.{◌*◌, ◌≤◌}
use Rattle.sets.specs.Sets.{count}
use Rattle.bits.specs.Sets.{member}
use Rattle.bits.proofs.count.Given as goal

abbrev pub invariant-loop-w : goal.invariant-loop-w
invariant-loop-w l = (l.w ≤ 8) × (l.n ≡ count (64 * l.w) (member l.set))
