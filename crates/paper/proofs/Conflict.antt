-- Conflict, not settled before any mark, and an inconsistent atom in the smallest model are one. Assumes nothing.
use mathlib.Core.List.{List}
use mathlib.Core.Logic.{inl, ⊎_elim, ◌↔◌}
use mathlib.Core.Path.{◌≡◌, refl, subst, subst⁻¹}
use Prim.Native.Nat.{ℕ}
use lib.Dec.{T}
use Rattle.paper.specs.Table1.{𝐢}
use Rattle.paper.specs.Rules.{Rule, OneRulePerHead, positive, negative}
use Rattle.paper.specs.Definitions.{Interpretation, value, Smallest}
use Rattle.paper.specs.Marking.{Marks, Held, HeldNotClean, CanBeMarked, Settled, Marking, none, one_more, no_marks, Conflict, inconsistent}
use Rattle.sets.specs.Sets.{◌with◌}
use Rattle.sets.proofs.Besides.{with_itself}
use Rattle.paper.proofs.Leasts.{held→clean}
use Rattle.paper.proofs.Order.{marking⊆settled, is𝐢→}
use Rattle.paper.proofs.Existence.{settled_marks, settled_marks_is, atoms_of, atoms_of_enough}
use Rattle.paper.proofs.Smallest.{marks_are_inconsistent}

module _ (R : List Rule) where
  pub conflict→can : (c : Conflict R) → CanBeMarked R no_marks c.0
  conflict→can c = record { unmarked = tt; because = inl (c.1, c.2) }

  -- before any mark what is held is clean, so only both literals held can mark an atom
  can→conflict : (a : ℕ) → CanBeMarked R no_marks a → Conflict R
  can→conflict a m =
      ⊎_elim (λ (h : Held R no_marks (positive a) × Held R no_marks (negative a)). (a, h.0, h.1))
      (⊎_elim (λ (h : HeldNotClean R no_marks (positive a)). absurd (h.1 (held→clean no_marks (λ b. refl) h.0)))
      (λ (h : HeldNotClean R no_marks (negative a)). absurd (h.1 (held→clean no_marks (λ b. refl) h.0)))) m.because

  pub settled↔no_conflict : Settled R no_marks ↔ (Conflict R → ⊥)
  settled↔no_conflict = ((λ s c. s c.0 (conflict→can c)), λ n a m. n (can→conflict a m))

  -- the first of the marks made was by a conflict
  marked→conflict : {n : ℕ} {A : Marks} → Marking R n A → (a : ℕ) → T (A a) → Conflict R
  marked→conflict none a h = absurd h
  marked→conflict (one_more b none c) a h = can→conflict b c
  marked→conflict (one_more b (one_more {A = B} d k e) c) a h = marked→conflict (one_more d k e) d (with_itself B d)

  module _ (one : OneRulePerHead R) (I : Interpretation) (smallest : Smallest R I) where
    -- the settled marking, and that its marks are the inconsistent atoms
    settled : (n : ℕ) × Marking R n (settled_marks R (atoms_of R)) × Settled R (settled_marks R (atoms_of R))
    settled = settled_marks_is R (atoms_of R) (atoms_of_enough R)

    marks : (a : ℕ) → settled_marks R (atoms_of R) a ≡ inconsistent I a
    marks = marks_are_inconsistent R one settled.1 settled.2 I smallest

    -- an atom that has both literals held before any mark is inconsistent
    pub conflict→inconsistent : (c : Conflict R) → value I (positive c.0) ≡ 𝐢
    conflict→inconsistent c =
        let first : T ((no_marks with c.0) c.0) = with_itself no_marks c.0 in
        let marked = marking⊆settled R (settled_marks R (atoms_of R)) (one_more c.0 none (conflict→can c)) settled.2 c.0 first in
        is𝐢→ (value I (positive c.0)) (subst T (marks c.0) marked)

    pub inconsistent→conflict : (a : ℕ) → value I (positive a) ≡ 𝐢 → Conflict R
    inconsistent→conflict a e = marked→conflict settled.1 a (subst⁻¹ T (marks a) (rw e tt))
