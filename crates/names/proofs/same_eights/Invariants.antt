use Prim.Native.Nat.{◌*◌, ◌-◌, ◌/◌, ◌≤◌}
use Rattle.names.proofs.Eights.{Same}
use Rattle.names.proofs.same_eights.Given as goal

abbrev pub invariant-loop-k : goal.invariant-loop-k
invariant-loop-k l =
    (l.k ≤ (l.n - 1) / 8) × Same l.sheet l.a l.b (8 * l.k)
