-- Tests as facts, and search over lists. Assumes nothing.
use mathlib.Core.Bool.{Bool, true, false, true≢false, not, ◌&&◌, ◌||◌}
use mathlib.Core.List.Memᴰ
use mathlib.Core.List.{List, [], ◌∷◌}
use mathlib.Core.Logic.{◌⊎◌, inl, inr, ⊎_elim}
use mathlib.Core.Path.{◌≡◌, refl, subst⁻¹, sym}
use lib.Dec.{T}
use Rattle.sets.specs.Sets.{◌∈◌}

pub T? : (b : Bool) → Dec (T b)
T? true = yes tt
T? false = no (λ h. h)

pub either : (b : Bool) → T b ⊎ T (not b)
either true = inl tt
either false = inr tt

pub T→true : (b : Bool) → T b → b ≡ true
T→true true h = refl
T→true false h = absurd h

pub not→false : (b : Bool) → T (not b) → b ≡ false
not→false true h = absurd h
not→false false h = refl

pub true→T : (b : Bool) → b ≡ true → T b
true→T b e = subst⁻¹ T e tt

pub false→not : (b : Bool) → b ≡ false → T (not b)
false→not b e = subst⁻¹ (λ (x : Bool). T (not x)) e tt

pub refuted→false : (b : Bool) → (T b → ⊥) → b ≡ false
refuted→false true f = absurd (f tt)
refuted→false false f = refl

pub same_tests→≡ : (a b : Bool) → (T a → T b) → (T b → T a) → a ≡ b
same_tests→≡ true true f g = refl
same_tests→≡ true false f g = absurd (f tt)
same_tests→≡ false true f g = absurd (g tt)
same_tests→≡ false false f g = refl

pub and_intro : (a b : Bool) → T a → T b → T (a && b)
and_intro true b h k = k
and_intro false b h k = h

pub and_left : (a b : Bool) → T (a && b) → T a
and_left true b h = tt
and_left false b h = h

pub and_right : (a b : Bool) → T (a && b) → T b
and_right true b h = h
and_right false b h = absurd h

pub and_both : (a b : Bool) → (a && b) ≡ true → (a ≡ true) × (b ≡ true)
and_both true b e = (refl, e)
and_both false b e = absurd (true≢false (sym e))

pub or_left : (a b : Bool) → T a → T (a || b)
or_left true b h = tt
or_left false b h = absurd h

pub or_right : (a b : Bool) → T b → T (a || b)
or_right true b h = tt
or_right false b h = h

pub or_cases : (a b : Bool) → T (a || b) → T a ⊎ T b
or_cases true b h = inl tt
or_cases false b h = inr h

module _ {A : Type 0} (test : A → Bool) where
  -- each element passes, or one that fails is at hand
  pub all_or_one_fails : (l : List A) → ((x : A) → x ∈ l → T (test x)) ⊎ ((x : A) × (x ∈ l) × T (not (test x)))
  all_or_one_fails [] = inl (λ x m. absurd (Memᴰ.not-nil m))
  all_or_one_fails (y ∷ l) = step (either (test y)) (all_or_one_fails l)
    where
      step : T (test y) ⊎ T (not (test y)) → ((x : A) → x ∈ l → T (test x)) ⊎ ((x : A) × (x ∈ l) × T (not (test x)))
          → ((x : A) → x ∈ (y ∷ l) → T (test x)) ⊎ ((x : A) × (x ∈ (y ∷ l)) × T (not (test x)))
      step (inr f) r = inr (y, Memᴰ.head refl, f)
      step (inl p) (inr q) = inr (q.0, Memᴰ.tail q.1, q.2)
      step (inl p) (inl a) =
          inl (λ x m. ⊎_elim (λ (e : x ≡ y). subst⁻¹ (λ (z : A). T (test z)) e p) (λ (k : x ∈ l). a x k) (Memᴰ.cases_cons m))
