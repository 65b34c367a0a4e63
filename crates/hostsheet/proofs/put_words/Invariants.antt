use Prim.Native.Nat.{◌≤◌, ◌*◌, ◌/◌}
use mathlib.Core.Path.{◌≡◌}
use lib.ListN.{length}
use Rattle.hostsheet.specs.SheetBytes.{word_bytes}
use Rattle.hostsheet.specs.Rooms.{sized}
use Rattle.hostsheet.proofs.Laying.{laid}
use Rattle.hostsheet.proofs.put_words.Given as goal

abbrev pub invariant-loop-i : goal.invariant-loop-i
invariant-loop-i l =
    (l.i ≤ length l.initial.bytes / 2) × (l.i-end ≡ length l.initial.bytes / 2) × (length l.bytes ≡ length l.initial.bytes)
    × (l.bytes ≡ laid (word_bytes (sized (length l.initial.bytes / 2) l.words)) l.initial.bytes (2 * l.i))
