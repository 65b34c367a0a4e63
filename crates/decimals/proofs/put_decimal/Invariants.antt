use mathlib.Core.Path.{◌≡◌}
use Prim.Native.Nat.{◌+◌, ◌≤◌}
use lib.ListN.{length}
use lib.Seq.{sets}
use Rattle.decimals.specs.Decimals.{decimal}
use Rattle.decimals.proofs.put_decimal.Given as goal

abbrev pub invariant-loop-left : goal.invariant-loop-left
invariant-loop-left l =
    (length l.text ≡ length l.initial.text) × (l.end ≡ l.at + length (decimal l.left)) × (l.end ≤ length l.initial.text) ×
    (sets l.text l.at (decimal l.left) ≡ sets l.initial.text l.at (decimal l.n))

abbrev pub decreases-loop-left : goal.decreases-loop-left
decreases-loop-left l =
    l.left
