use mathlib.Core.Path.{◌≡◌}
use Prim.Native.Nat.{◌≤◌}
use Rattle.names.specs.Names.{bytes_at, same_bytes}
use Rattle.names.proofs.Steps.{rest_same}
use Rattle.names.proofs.same_bytes.Given as goal

abbrev pub invariant-loop-i : goal.invariant-loop-i
invariant-loop-i l =
    (l.i ≤ l.n) × (rest_same l.sheet l.a l.b l.n l.i ≡ same_bytes (bytes_at l.sheet l.a l.n) (bytes_at l.sheet l.b l.n))
