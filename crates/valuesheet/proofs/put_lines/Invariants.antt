use mathlib.Core.Path.{◌≡◌}
use Prim.Native.Nat.{◌+◌, ◌*◌, ◌≤◌}
use lib.ListN.{length, get_or, take, drop}
use lib.Seq.{sets}
use Rattle.valuesheet.specs.ValueSheet.{lines_from}
use Rattle.valuesheet.specs.Fitting.{bytes_for}
use Rattle.valuesheet.proofs.put_lines.Given as goal

abbrev pub invariant-loop-a : goal.invariant-loop-a
invariant-loop-a l =
    (l.a ≤ l.n) × (l.at ≤ 34 * l.a) × (length l.text ≡ length l.initial.text)
    × (l.at + bytes_for (drop l.a (take l.n l.names)) ≡ bytes_for (take l.n l.names))
    × (sets l.text l.at (lines_from l.sheet (λ x. get_or l.values x 0) l.a (drop l.a (take l.n l.names)))
    ≡ sets l.initial.text 0 (lines_from l.sheet (λ x. get_or l.values x 0) 0 (take l.n l.names)))
