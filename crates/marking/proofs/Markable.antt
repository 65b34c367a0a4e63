-- The test by held and clean literals is document 01's "can be marked". Assumes nothing.
use mathlib.Core.Bool.{Bool, not, ◌&&◌, ◌||◌}
use mathlib.Core.List.{List}
use mathlib.Core.Logic.{◌⊎◌, inl, inr, ⊎_elim, ◌↔◌}
use mathlib.Core.Path.{◌≡◌, sym, ◌∙◌}
use Prim.Native.Nat.{ℕ}
use lib.Dec.{T, T_not, not_T}
use Rattle.paper.specs.Rules.{Rule, HeadsBelow, positive, negative}
use Rattle.paper.specs.Marking.{Marks, Held, HeldNotClean, CanBeMarked, IsHeld, IsClean}
use Rattle.sets.proofs.Tests.{and_intro, and_left, and_right, or_left, or_right, or_cases, true→T, false→not}
use Rattle.sets.specs.Some.{some_below}
use Rattle.sets.proofs.Some.{some→, →some}
use Rattle.paper.proofs.Order.{can_be_marked_below}
use Rattle.marking.specs.Markable.{held_not_clean, reason_to_mark, markable, GoesOn}

module _ (R : List Rule) (A : Marks) (H C : ℕ → Bool) (h : IsHeld R A H) (c : IsClean R A C) where
  held_not_clean→ : (l : ℕ) → T (held_not_clean H C l) → HeldNotClean R A l
  held_not_clean→ l t = ((h l).0 (and_left (H l) (not (C l)) t), λ k. T_not (C l) (and_right (H l) (not (C l)) t) ((c l).1 k))

  →held_not_clean : (l : ℕ) → HeldNotClean R A l → T (held_not_clean H C l)
  →held_not_clean l t = and_intro (H l) (not (C l)) ((h l).1 t.0) (not_T (C l) (λ k. t.1 ((c l).0 k)))

  pub markable_is : (a : ℕ) → T (markable A H C a) ↔ CanBeMarked R A a
  markable_is a = (
    (λ t.
        let b = and_right (not (A a)) (reason_to_mark H C a) t in
        record {
          unmarked = and_left (not (A a)) (reason_to_mark H C a) t;
          because =
              ⊎_elim (λ (x : T (H (positive a) && H (negative a))). inl
              ((h (positive a)).0 (and_left (H (positive a)) (H (negative a)) x), (h (negative a)).0 (and_right (H (positive a)) (H (negative a)) x)))
              (λ (x : T (held_not_clean H C (positive a) || held_not_clean H C (negative a))).
              inr (⊎_elim (λ (y : T (held_not_clean H C (positive a))). inl (held_not_clean→ (positive a) y))
              (λ (y : T (held_not_clean H C (negative a))). inr (held_not_clean→ (negative a) y))
              (or_cases (held_not_clean H C (positive a)) (held_not_clean H C (negative a)) x)))
              (or_cases (H (positive a) && H (negative a)) (held_not_clean H C (positive a) || held_not_clean H C (negative a)) b);
        }),
    λ m.
        and_intro (not (A a)) (reason_to_mark H C a) m.unmarked
        (⊎_elim
        (λ (x : Held R A (positive a) × Held R A (negative a)).
        or_left (H (positive a) && H (negative a)) (held_not_clean H C (positive a) || held_not_clean H C (negative a))
        (and_intro (H (positive a)) (H (negative a)) ((h (positive a)).1 x.0) ((h (negative a)).1 x.1)))
        (λ (x : HeldNotClean R A (positive a) ⊎ HeldNotClean R A (negative a)).
        or_right (H (positive a) && H (negative a)) (held_not_clean H C (positive a) || held_not_clean H C (negative a))
        (⊎_elim
        (λ (y : HeldNotClean R A (positive a)). or_left (held_not_clean H C (positive a)) (held_not_clean H C (negative a)) (→held_not_clean (positive a) y))
        (λ (y : HeldNotClean R A (negative a)). or_right (held_not_clean H C (positive a)) (held_not_clean H C (negative a))
        (→held_not_clean (negative a) y)) x))
        m.because),
  )

  pub goes_on : (n : ℕ) → HeadsBelow n R → (r : Bool) → r ≡ some_below (markable A H C) n → GoesOn R A r
  goes_on n below r e =
      record {
        when_true = λ f s.
            let q = some→ (markable A H C) n (true→T (some_below (markable A H C) n) (sym e ∙ f)) in s q.0 ((markable_is q.0).0 q.1);
        when_false = λ f a m. T_not
            (some_below (markable A H C) n) (false→not (some_below (markable A H C) n) (sym e ∙ f))
            (→some (markable A H C) n a (can_be_marked_below R n below A a m) ((markable_is a).1 m));
      }
