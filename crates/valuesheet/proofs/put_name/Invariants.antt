use mathlib.Core.Path.{◌≡◌}
use Prim.Native.Nat.{◌≤◌}
use lib.ListN.{length}
use lib.Seq.{sets}
use Rattle.names.specs.Names.{bytes_at}
use Rattle.valuesheet.proofs.Printing.{name_left}
use Rattle.valuesheet.proofs.put_name.Given as goal

abbrev pub invariant-loop-i : goal.invariant-loop-i
invariant-loop-i l =
    (l.i ≤ l.len) × (length l.text ≡ length l.initial.text)
    × (name_left l.sheet l.start l.len l.text l.at l.i ≡ sets l.initial.text l.at (bytes_at l.sheet l.start l.len))
