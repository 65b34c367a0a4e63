-- The smallest well-supported model: it exists, is one, and is the same for every kind of order. Assumes nothing.
use mathlib.Core.List.{List}
use mathlib.Core.Logic.{◌↔◌}
use mathlib.Core.Path.{◌≡◌, subst, sym, ap, ◌∙◌, fun_ext}
use Prim.Native.Nat.{ℕ}
use lib.Dec.{T}
use Rattle.paper.specs.Rules.{Rule, OneRulePerHead, HeadsBelow, positive}
use Rattle.paper.specs.Definitions.{Interpretation, value, WellSupported, WellSupportedByTest, SmallestWellSupported, Smallest}
use Rattle.sets.specs.Sets.{count}
use Rattle.paper.specs.Marking.{Marks, Marking, Settled, IsHeld, inconsistent, settled_value}
use Rattle.sets.proofs.Tests.{same_tests→≡}
use Rattle.paper.proofs.Closure.{held_set, held_set_is}
use Rattle.paper.proofs.Contained.{held_contained}
use Rattle.paper.proofs.Supported.{settled_supported}
use Rattle.paper.proofs.Settled.{settled_value_is}
use Rattle.paper.proofs.Order.{marking_count, settled_inconsistent}
use Rattle.sets.proofs.Counting.{count_≡}
use Rattle.paper.proofs.Existence.{settled_marks, settled_marks_is, atoms_of, atoms_of_enough}

pub test→any : (R : List Rule) (I : Interpretation) → WellSupportedByTest R I → WellSupported R I
test→any R I w = ((λ x y. T (w.0 x y)), w.1)

-- the held literals of a settled marking
module _
    (R : List Rule) (one : OneRulePerHead R) {n : ℕ} {A : Marks} (k : Marking R n A) (s : Settled R A) (I : Interpretation) (is_held_lem : IsHeld R A I) where
  pub settled_smallest : Smallest R I
  settled_smallest =
      record {
        well_supported = settled_supported R one k s I is_held_lem;
        contained = λ M w. held_contained R M (λ x y. T (w.0 x y)) w.1 k I is_held_lem;
      }

  pub settled_smallest_any : SmallestWellSupported R I
  settled_smallest_any =
      record {
        well_supported = test→any R I (settled_supported R one k s I is_held_lem);
        contained = λ M w. held_contained R M w.0 w.1 k I is_held_lem;
      }

pub smallest_unique : (R : List Rule) (I J : Interpretation) → Smallest R I → Smallest R J → I ≡ J
smallest_unique R I J i j =
    fun_ext (λ l. same_tests→≡ (I l) (J l) (i.contained J j.well_supported l) (j.contained I i.well_supported l))

pub smallest_any_unique : (R : List Rule) (I J : Interpretation) → SmallestWellSupported R I → SmallestWellSupported R J → I ≡ J
smallest_any_unique R I J i j =
    fun_ext (λ l. same_tests→≡ (I l) (J l) (i.contained J j.well_supported l) (j.contained I i.well_supported l))

module _ (R : List Rule) (one : OneRulePerHead R) where
  -- the model that is computed
  unfoldable pub smallest_set : Interpretation
  smallest_set = held_set R (settled_marks R (atoms_of R))

  pub smallest_set_is : Smallest R smallest_set
  unfolding smallest_set
  smallest_set_is =
      let m = settled_marks_is R (atoms_of R) (atoms_of_enough R) in
      settled_smallest R one m.1 m.2 smallest_set (held_set_is R (settled_marks R (atoms_of R)))

  pub smallest_set_is_any : SmallestWellSupported R smallest_set
  unfolding smallest_set
  smallest_set_is_any =
      let m = settled_marks_is R (atoms_of R) (atoms_of_enough R) in
      settled_smallest_any R one m.1 m.2 smallest_set (held_set_is R (settled_marks R (atoms_of R)))

  -- an order that is a test singles out no other model
  pub smallest↔any : (I : Interpretation) → Smallest R I ↔ SmallestWellSupported R I
  smallest↔any I = (
    (λ i. subst (SmallestWellSupported R) (smallest_unique R smallest_set I smallest_set_is i) smallest_set_is_any),
    λ i. subst (Smallest R) (smallest_any_unique R smallest_set I smallest_set_is_any i) smallest_set_is,
  )

  module _ {n : ℕ} {A : Marks} (k : Marking R n A) (s : Settled R A) (I : Interpretation) (i : Smallest R I) where
    held_is_smallest : IsHeld R A I
    held_is_smallest l =
        subst (λ (J : Interpretation). T (J l) ↔ Rattle.paper.specs.Marking.Held R A l)
        (smallest_unique R (held_set R A) I (settled_smallest R one k s (held_set R A) (held_set_is R A)) i) (held_set_is R A l)

    pub marks_are_inconsistent : (a : ℕ) → A a ≡ inconsistent I a
    marks_are_inconsistent a = settled_inconsistent R A I held_is_smallest s a

    pub marks_made_are_inconsistent : (N : ℕ) → HeadsBelow N R → n ≡ count N (inconsistent I)
    marks_made_are_inconsistent N below =
        sym (marking_count R N below k) ∙ count_≡ N A (inconsistent I) (λ a h. marks_are_inconsistent a)

    -- the i, t, f, u rule gives the values of the smallest model
    pub settled_value_is_smallest : (H : Interpretation) → IsHeld R A H → (a : ℕ) → settled_value A H a ≡ value I (positive a)
    settled_value_is_smallest H is_held_lem a =
        settled_value_is R A H is_held_lem s a
        ∙ ap (λ (J : Interpretation). value J (positive a)) (smallest_unique R H I (settled_smallest R one k s H is_held_lem) i)
