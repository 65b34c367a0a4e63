use mathlib.Core.Path.{◌≡◌}
use Prim.Native.Nat.{◌+◌, ◌*◌, ◌≤◌}
use lib.ListN.{take, drop}
use Rattle.valuesheet.specs.Fitting.{bytes_for}
use Rattle.valuesheet.proofs.bytes_needed.Given as goal

abbrev pub invariant-loop-a : goal.invariant-loop-a
invariant-loop-a l =
    (l.a ≤ l.n) × (l.total ≤ 34 * l.a) × (l.total + bytes_for (drop l.a (take l.n l.names)) ≡ bytes_for (take l.n l.names))
