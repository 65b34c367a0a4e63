-- Stage: can an unmarked atom be marked, told from the held and the clean literals.
use Rattle.std.specs.Prelude.{Bool, true, false, not, ◌&&◌, ◌||◌, List, ◌≡◌, ℕ}
use Rattle.paper.specs.Rules.{Rule, positive, negative}
use Rattle.paper.specs.Marking.{Marks, Settled}

abbrev pub held_not_clean : (ℕ → Bool) → (ℕ → Bool) → ℕ → Bool
held_not_clean H C l = H l && not (C l)

-- both literals held, or one of them held and not clean
abbrev pub reason_to_mark : (ℕ → Bool) → (ℕ → Bool) → ℕ → Bool
reason_to_mark H C a = H (positive a) && H (negative a) || (held_not_clean H C (positive a) || held_not_clean H C (negative a))

abbrev pub markable : (ℕ → Bool) → (ℕ → Bool) → (ℕ → Bool) → ℕ → Bool
markable A H C a = not (A a) && reason_to_mark H C a

-- an answer to "can any atom be marked"
pub record GoesOn (R : List Rule) (A : Marks) (answer : Bool) : Type 0 where
  pub when_true : answer ≡ true → Settled R A → ⊥
  pub when_false : answer ≡ false → Settled R A
