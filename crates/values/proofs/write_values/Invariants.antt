use Prim.Native.Nat.{◌≤◌}
use mathlib.Core.Path.{◌≡◌}
use lib.ListN.{length}
use Rattle.bits.specs.Sets.{member}
use Rattle.paper.specs.Marking.{settled_value}
use Rattle.values.specs.Values.{written}
use Rattle.values.proofs.write_values.Given as goal

abbrev pub invariant-loop-a : goal.invariant-loop-a
invariant-loop-a l =
    (l.a ≤ l.n) × (length l.values ≡ length l.initial.values)
    × (l.values ≡ written (settled_value (member l.marks) (member l.held)) l.a l.initial.values)
