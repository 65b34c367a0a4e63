use mathlib.Core.Path.{◌≡◌}
use Prim.Native.Nat.{◌+◌, ◌≤◌}
use lib.ListN.{take, drop}
use Rattle.names.specs.Names.{bytes_at, number_in}
use Rattle.names.proofs.number.Given as goal

abbrev pub invariant-loop-i : goal.invariant-loop-i
invariant-loop-i l =
    (l.i ≤ l.count) × (l.i + number_in l.sheet (drop l.i (take l.count l.names)) (bytes_at l.sheet l.start l.len)
    ≡ number_in l.sheet (take l.count l.names) (bytes_at l.sheet l.start l.len))
