-- Passes enough come to rest: one more changes nothing. Assumes nothing.
use mathlib.Core.Bool.{Bool}
use mathlib.Core.List.{List}
use mathlib.Core.Path.{◌≡◌, refl, sym, ap, ◌∙◌}
use Prim.Native.Nat.{ℕ, zero, suc, ◌+◌, ◌≤◌, ◌<◌}
use native.Mathlib.Omega.{arith}
use native.Mathlib.Decide.{ℕ_discrete}
use Rattle.sets.proofs.Counting.{count≤}
use Rattle.paper.specs.Rules.{Rule, HeadsBelow}
use Rattle.paper.specs.Marking.{Marks}
use Rattle.bits.specs.Sets.{member}
use Rattle.ranks.specs.declared.Found.{Found}
use Rattle.ranks.specs.Found.{Fit, over_rules, passes_of, found_at_rest}
use Rattle.ranks.proofs.Lines.{Moves}
use Rattle.ranks.proofs.Rules.{pass_moves}

-- there are no more lines than literals
pub at_most_1024 : (st : Found) → Fit st → st.next_rank ≤ 1024
at_most_1024 st f = let k = count≤ 1024 (member st.ranked) in let e = f.counted in omega arith

module _ (pass : Found → Found) where
  passes_still : (n : ℕ) (st : Found) → pass st ≡ st → passes_of n pass st ≡ st
  unfolding passes_of
  passes_still zero st e = refl
  passes_still (suc n) st e = ap (passes_of n pass) e ∙ passes_still n st e

  -- what each pass keeps, all of them keep
  passes_keep : (Inv : Found → Type 0) → ((st : Found) → Inv st → Inv (pass st)) → (n : ℕ) (st : Found) → Inv st → Inv (passes_of n pass st)
  unfolding passes_of
  passes_keep Inv keeps zero st i = i
  passes_keep Inv keeps (suc n) st i = passes_keep Inv keeps n (pass st) (keeps st i)

  module _ (moves : (st : Found) → Fit st → Moves st (pass st)) where
    -- as many passes as there can be lines still, and one, are enough
    passes_enough : (n m : ℕ) (st : Found) → Fit st → 1024 < n + st.next_rank → 1024 < m + st.next_rank
        → passes_of n pass st ≡ passes_of m pass st
    unfolding passes_of
    passes_enough zero m st f h k = let b = at_most_1024 st f in absurd (omega arith)
    passes_enough (suc n) zero st f h k = let b = at_most_1024 st f in absurd (omega arith)
    passes_enough (suc n) (suc m) st f h k =
        let q = moves st f in
        let more = q.more in
        elim (ℕ_discrete (pass st).next_rank st.next_rank) [
          | yes e ↦
              let s = q.still e in
              ap (passes_of n pass) s ∙ passes_still n st s ∙ sym (ap (passes_of m pass) s ∙ passes_still m st s)
          | no e ↦ passes_enough n m (pass st) q.fit (omega arith) (omega arith)
        ]

    passes_rest : (n : ℕ) (st : Found) → Fit st → 1024 < n + st.next_rank → pass (passes_of n pass st) ≡ passes_of n pass st
    unfolding passes_of
    passes_rest zero st f h = let b = at_most_1024 st f in absurd (omega arith)
    passes_rest (suc n) st f h =
        let q = moves st f in
        let more = q.more in
        elim (ℕ_discrete (pass st).next_rank st.next_rank) [
          | yes e ↦
              let s = q.still e in
              let p : passes_of n pass (pass st) ≡ st = ap (passes_of n pass) s ∙ passes_still n st s in
              ap pass p ∙ s ∙ sym p
          | no e ↦ passes_rest n (pass st) q.fit (omega arith)
        ]

    -- a pass that is made already
    passes_turn : (n : ℕ) (st : Found) → Fit st → 1024 < n + st.next_rank → passes_of n pass (pass st) ≡ passes_of n pass st
    unfolding passes_of
    passes_turn n st f h = passes_enough (suc n) n st f (omega arith) h

module _ (marked : Bool) (clean : List ℕ) (A : Marks) (R : List Rule) where
  pub rest_keeps : (Inv : Found → Type 0) → ((st : Found) → Inv st → Inv (over_rules marked clean A R st))
      → (st : Found) → Inv st → Inv (found_at_rest marked clean A R st)
  unfolding found_at_rest
  rest_keeps Inv keeps st i = passes_keep (over_rules marked clean A R) Inv keeps 1025 st i

  -- a state that a pass does not change
  pub at_rest_there : (st : Found) → over_rules marked clean A R st ≡ st → found_at_rest marked clean A R st ≡ st
  unfolding found_at_rest
  at_rest_there st e = passes_still (over_rules marked clean A R) 1025 st e

  module _ (below : HeadsBelow 512 R) where
    pub at_rest : (st : Found) → Fit st → over_rules marked clean A R (found_at_rest marked clean A R st) ≡ found_at_rest marked clean A R st
    unfolding found_at_rest
    at_rest st f = passes_rest (over_rules marked clean A R) (pass_moves marked clean A R below) 1025 st f (omega arith)

    pub rest_turn : (st : Found) → Fit st → found_at_rest marked clean A R (over_rules marked clean A R st) ≡ found_at_rest marked clean A R st
    unfolding found_at_rest
    rest_turn st f = passes_turn (over_rules marked clean A R) (pass_moves marked clean A R below) 1025 st f (omega arith)
