-- Laws of Held and Clean as least sets. Assumes nothing.
use mathlib.Core.Bool.{Bool, false, not}
use mathlib.Core.List.{List, []}
use mathlib.Core.Logic.{◌⊎◌, inl, inr, ⊎_elim}
use mathlib.Core.Path.{◌≡◌, subst, subst⁻¹}
use Prim.Native.Nat.{ℕ}
use native.Mathlib.Omega.{arith}
use lib.Dec.{T, eqb, eqb→eq}
use Rattle.paper.specs.Rules.{Rule, atom, negation, positive, negative}
use Rattle.sets.specs.Sets.{◌∈◌, ◌⊆◌}
use Rattle.paper.specs.Marking.{Marks, Unmarked, Least, from_base, by_fact, by_group, Held, Clean, HeldNotClean, CanBeMarked}
use Rattle.sets.proofs.Tests.{either}

-- the least set is contained in every set that has base and is closed under the allowed rules
pub least_contained : {R : List Rule} {base allowed : ℕ → Type 0} (S : ℕ → Type 0) → ((l : ℕ) → base l → S l)
    → ((l : ℕ) (ρ : Rule) → ρ ∈ R → ρ.head ≡ l → allowed l → ρ.groups ≡ [] → S l)
    → ((l : ℕ) (ρ : Rule) (β : List ℕ) → ρ ∈ R → ρ.head ≡ l
    → allowed l → β ∈ ρ.groups → ((ι : ℕ) → ι ∈ β → S ι) → S l)
    → {l : ℕ} → Least R base allowed l → S l
least_contained S b f g {l} (from_base h) = b l h
least_contained S b f g {l} (by_fact ρ m e a n) = f l ρ m e a n
least_contained S b f g {l} (by_group ρ β m e a k all) = g l ρ β m e a k (λ ι i. least_contained S b f g (all ι i))

-- more rules, a larger base and more allowed heads give a larger least set
pub least_mono : {R R' : List Rule} {base base' allowed allowed' : ℕ → Type 0} → ((ρ : Rule) → ρ ∈ R → ρ ∈ R')
    → ((l : ℕ) → base l → base' l) → ((l : ℕ) → allowed l → allowed' l)
    → {l : ℕ} → Least R base allowed l → Least R' base' allowed' l
least_mono {R' = R'} {base' = base'} {allowed' = allowed'} r b a =
    least_contained (Least R' base' allowed') (λ l h. from_base (b l h)) (λ l ρ m e k n. by_fact ρ (r ρ m) e (a l k) n)
    (λ l ρ β m e k g all. by_group ρ β (r ρ m) e (a l k) g all)

-- marks and their negation under containment
unmarked_anti : (A B : Marks) → A ⊆ B → (a : ℕ) → Unmarked B a → Unmarked A a
unmarked_anti A B s a h = ⊎_elim (λ (t : T (A a)). absurd (lib.Dec.T_not (B a) h (s a t))) (λ (f : T (not (A a))). f) (either (A a))

module _ {R : List Rule} where
  pub clean→held : (A : Marks) {l : ℕ} → Clean R A l → Held R A l
  clean→held A = least_mono (λ ρ m. m) (λ l h. absurd h) (λ l h. tt)

  -- with no marks every held literal is clean
  pub held→clean : (A : Marks) → ((a : ℕ) → A a ≡ false) → {l : ℕ} → Held R A l → Clean R A l
  held→clean A none = least_mono (λ ρ m. m) (λ l h. subst T (none (atom l)) h) (λ l h. subst⁻¹ (λ (b : Bool). T (not b)) (none (atom l)) tt)

  -- held grows with the marks, clean shrinks
  pub held_mono : (A B : Marks) → A ⊆ B → {l : ℕ} → Held R A l → Held R B l
  held_mono A B s = least_mono (λ ρ m. m) (λ l h. s (atom l) h) (λ l h. tt)

  pub clean_anti : (A B : Marks) → A ⊆ B → {l : ℕ} → Clean R B l → Clean R A l
  clean_anti A B s = least_mono (λ ρ m. m) (λ l h. h) (λ l h. unmarked_anti A B s (atom l) h)

  -- a clean literal's atom is unmarked
  pub clean→unmarked : (A : Marks) {l : ℕ} → Clean R A l → Unmarked A (atom l)
  clean→unmarked A (from_base h) = absurd h
  clean→unmarked A (by_fact ρ m e a n) = a
  clean→unmarked A (by_group ρ β m e a k all) = a

  -- can-be-marked is monotone in the marks
  pub can_be_marked_mono : (A B : Marks) → A ⊆ B → (a : ℕ) → Unmarked B a → CanBeMarked R A a → CanBeMarked R B a
  can_be_marked_mono A B s a u c =
      record {
        unmarked = u;
        because = ⊎_elim (λ (h : Held R A (positive a) × Held R A (negative a)). inl (held_mono A B s h.0, held_mono A B s h.1))
            (λ (h : HeldNotClean R A (positive a) ⊎ HeldNotClean R A (negative a)).
            inr (⊎_elim (λ (p : HeldNotClean R A (positive a)). inl (carry (positive a) p))
            (λ (n : HeldNotClean R A (negative a)). inr (carry (negative a) n)) h))
            c.because;
      }
    where
      carry : (l : ℕ) → HeldNotClean R A l → HeldNotClean R B l
      carry l h = (held_mono A B s h.0, λ k. h.1 (clean_anti A B s k))

-- literals and atoms
pub atom_negation : (l : ℕ) → atom (negation l) ≡ atom l
atom_negation l = omega arith

pub negation_positive : (a : ℕ) → negation (positive a) ≡ negative a
negation_positive a = omega arith

pub negation_negative : (a : ℕ) → negation (negative a) ≡ positive a
negation_negative a = omega arith

pub atom_positive : (a : ℕ) → atom (positive a) ≡ a
atom_positive a = omega arith

pub atom_negative : (a : ℕ) → atom (negative a) ≡ a
atom_negative a = omega arith

-- a literal is the positive or the negative one of its atom
pub sign : (l : ℕ) → ((l ≡ positive (atom l)) × (negation l ≡ negative (atom l))) ⊎ ((l ≡ negative (atom l)) × (negation l ≡ positive (atom l)))
sign l = ⊎_elim (λ (h : T (eqb (Prim.Native.Nat.◌%◌ l 2) 0)). let e = eqb→eq (Prim.Native.Nat.◌%◌ l 2) 0 h in inl (omega arith, omega arith))
    (λ (h : T (not (eqb (Prim.Native.Nat.◌%◌ l 2) 0))). inr (go h))
    (either (eqb (Prim.Native.Nat.◌%◌ l 2) 0))
  where
    go : T (not (eqb (Prim.Native.Nat.◌%◌ l 2) 0)) → (l ≡ negative (atom l)) × (negation l ≡ positive (atom l))
    go h =
        let n : (Prim.Native.Nat.◌%◌ l 2 ≡ 0 → ⊥) = λ e. lib.Dec.T_not (eqb (Prim.Native.Nat.◌%◌ l 2) 0) h (rw e tt) in
        (omega arith, omega arith)
