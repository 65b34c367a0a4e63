-- Stage: how many bytes a read brings, and the room for them.
use Rattle.std.specs.Prelude.{List, ℕ, ◌≤◌, ◌<◌, ◌+◌, Result, Ok, Err, Option, Some, None}
use Rattle.std.specs.Counts.{IsPrefixLen}

-- some bytes, which fit from the place on; the end of input and a failed read bring none
abbrev pub Arrived : {E : Type 0} → ℕ → ℕ → Result (Option ℕ) E → Type 0
Arrived place room (Ok (Some n)) = (0 < n) × (place + n ≤ room)
Arrived place room (Ok None) = Unit {0}
Arrived place room (Err e) = Unit {0}

-- a whole input is the first bytes of the room
abbrev pub Holds : {E : Type 0} → List ℕ → Result ℕ E → Type 0
Holds sheet (Ok n) = IsPrefixLen n sheet
Holds sheet (Err e) = Unit {0}
