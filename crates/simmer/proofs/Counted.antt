-- Bytes at the start of a room. Assumes nothing.
use mathlib.Core.List.{List}
use mathlib.Core.Path.{◌≡◌, sym, subst}
use Prim.Native.Nat.{ℕ, ◌≤◌, ◌<◌, ◌+◌}
use lib.ListN.{length}
use lib.Seq.{length-take-le}
use Rattle.std.specs.Counts.{IsPrefixLen}
use Rattle.std.specs.Prelude.{Result, Ok, Option, Some}
use Rattle.simmer.specs.Rooms.{Arrived, Holds}

pub counted : (n : ℕ) (xs : List ℕ) → n ≤ length xs → IsPrefixLen n xs
counted n xs h = (h, sym (length-take-le n xs h))

-- what is known of a read that brought n bytes
pub bytes_arrived : {E : Type 0} (place room n : ℕ) {a : Result (Option ℕ) E} → Arrived place room a → a ≡ Ok (Some n)
    → (0 < n) × (place + n ≤ room)
bytes_arrived place room n h e = subst (Arrived place room) e h

-- what is known of an input of n bytes
pub whole_input : {E : Type 0} (sheet : List ℕ) (n : ℕ) {i : Result ℕ E} → Holds sheet i → i ≡ Ok n → IsPrefixLen n sheet
whole_input sheet n h e = subst (Holds sheet) e h
