-- Stage: both literals of an atom in a set, and an answer to whether some atom has them so.
use Rattle.std.specs.Prelude.{Bool, true, false, ◌&&◌, List, ◌≡◌, ℕ}
use Rattle.paper.specs.Rules.{Rule, positive, negative}
use Rattle.paper.specs.Marking.{Conflict}

abbrev pub both_in : (ℕ → Bool) → ℕ → Bool
both_in S a = S (positive a) && S (negative a)

-- an answer to "is there a conflict"
pub record InConflict (R : List Rule) (answer : Bool) : Type 0 where
  pub when_true : answer ≡ true → Conflict R
  pub when_false : answer ≡ false → Conflict R → ⊥
