use Prim.Native.Nat.{◌≤◌, ◌/◌}
use mathlib.Core.Path.{◌≡◌}
use lib.ListN.{length}
use Rattle.host.proofs.Bytes.{filled}
use Rattle.host.proofs.fill_words.Given as goal

abbrev pub invariant-loop-i : goal.invariant-loop-i
invariant-loop-i l =
    (l.i ≤ length l.bytes / 2) × (l.i-end ≡ length l.bytes / 2) × (length l.words ≡ length l.initial.words)
    × (l.words ≡ filled l.bytes l.initial.words l.i)
