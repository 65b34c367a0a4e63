-- Stage: which heads are looked for, told by the clean literals: marked ones where they are known.
use Rattle.std.specs.Prelude.{Bool, true, false, List, ℕ, replicate, Option, Some, None}

abbrev pub marked_in : Option (List ℕ) → Bool
marked_in None = false
marked_in (Some clean) = true

abbrev pub clean_in : Option (List ℕ) → List ℕ
clean_in None = replicate 16 0
clean_in (Some clean) = clean
