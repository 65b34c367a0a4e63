use mathlib.Core.Path.{◌≡◌}
use Prim.Native.Nat.{◌+◌, ◌-◌, ◌≤◌}
use lib.ListN.{length, drop}
use Rattle.reader.specs.Sheet.{name_run}
use Rattle.reader.proofs.name_run.Given as goal

abbrev pub invariant-loop-n : goal.invariant-loop-n
invariant-loop-n l =
    (l.q + l.n ≤ length l.sheet) × (l.n + name_run (drop (l.q + l.n) l.sheet) ≡ name_run (drop l.q l.sheet))

abbrev pub decreases-loop-n : goal.decreases-loop-n
decreases-loop-n l =
    length l.sheet - (l.q + l.n)
