-- The look at each atom's held literals finds a conflict exactly if there is one. Assumes nothing.
use mathlib.Core.Bool.{Bool}
use mathlib.Core.List.{List}
use mathlib.Core.Path.{◌≡◌, sym, ◌∙◌, subst, fun_ext}
use Prim.Native.Nat.{ℕ}
use lib.Dec.{T_not}
use lib.ListN.{replicate}
use Rattle.sets.specs.Some.{some_below}
use Rattle.sets.proofs.Some.{some→, →some}
use Rattle.sets.proofs.Tests.{and_intro, and_left, and_right, true→T, false→not}
use Rattle.paper.specs.Rules.{Rule, HeadsBelow, positive, negative}
use Rattle.paper.specs.Marking.{Marks, IsHeld, no_marks}
use Rattle.paper.proofs.Order.{can_be_marked_below}
use Rattle.paper.proofs.Conflict.{conflict→can}
use Rattle.bits.specs.Sets.{member}
use Rattle.bits.proofs.Laws.{member_of_zeros}
use Rattle.conflict.specs.Both.{both_in, InConflict}

module _ (R : List Rule) (n : ℕ) (below : HeadsBelow n R) (H : ℕ → Bool) (r : Bool) (e : r ≡ some_below (both_in H) n) where
  by_held : IsHeld R no_marks H → InConflict R r
  by_held h =
      record {
        when_true = λ f.
            let q = some→ (both_in H) n (true→T (some_below (both_in H) n) (sym e ∙ f)) in
            let a : ℕ = q.0 in
            (a, (h (positive a)).0 (and_left (H (positive a)) (H (negative a)) q.1), (h (negative a)).0 (and_right (H (positive a)) (H (negative a)) q.1));
        when_false = λ f c.
            let a : ℕ = c.0 in
            T_not (some_below (both_in H) n) (false→not (some_below (both_in H) n) (sym e ∙ f))
            (→some (both_in H) n a (can_be_marked_below R n below no_marks a (conflict→can R c))
            (and_intro (H (positive a)) (H (negative a)) ((h (positive a)).1 c.1) ((h (negative a)).1 c.2)));
      }

  -- a row of zeros has no mark
  pub looked_through : IsHeld R (member (replicate 8 0)) H → InConflict R r
  looked_through h = by_held (subst (λ (A : Marks). IsHeld R A H) (fun_ext (member_of_zeros 8)) h)
