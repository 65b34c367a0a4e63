-- The first that does not pass: there is one at most, and it stands behind those that were seen to pass. Assumes nothing.
use mathlib.Core.List.Memᴰ
use mathlib.Core.List.{List, [], ◌∷◌, ◌++◌}
use mathlib.Core.Logic.{⊎_elim}
use mathlib.Core.Path.{◌≡◌, refl, ap, subst⁻¹}
use Prim.Native.Nat.{ℕ, suc}
use lib.ListN.{length}
use Rattle.sets.specs.Sets.{◌∈◌}
use Rattle.sets.specs.First.{FirstNot, this_one, later_one}

-- each of a list passes
abbrev pub All : {A : Type 0} → (A → Type 0) → List A → Type 0
All {A} ok l = (x : A) → x ∈ l → ok x

module _ {A : Type 0} (ok : A → Type 0) where
  pub first_determined : {l : List A} {n m : ℕ} → FirstNot ok l n → FirstNot ok l m → n ≡ m
  first_determined (this_one f) (this_one g) = refl
  first_determined (this_one f) (later_one h q) = absurd (f h)
  first_determined (later_one h p) (this_one g) = absurd (g h)
  first_determined (later_one h p) (later_one k q) = ap suc (first_determined p q)

  pub all_or_first : {l : List A} {n : ℕ} → All ok l → FirstNot ok l n → ⊥
  all_or_first a (this_one {x = x} f) = f (a x (Memᴰ.head refl))
  all_or_first a (later_one h p) = all_or_first (λ y m. a y (Memᴰ.tail m)) p

  -- what stands right behind those that pass
  pub first_behind : (l : List A) (x : A) (rest : List A) → All ok l → (ok x → ⊥) → FirstNot ok (l ++ x ∷ rest) (length l)
  first_behind [] x rest a f = this_one f
  first_behind (y ∷ l) x rest a f = later_one (a y (Memᴰ.head refl)) (first_behind l x rest (λ z m. a z (Memᴰ.tail m)) f)

  pub all_nil : All ok []
  all_nil x m = absurd (Memᴰ.not-nil m)

  pub all_behind : (l : List A) (y : A) → All ok l → ok y → All ok (l ++ y ∷ [])
  all_behind [] y a h x m = ⊎_elim (λ (e : x ≡ y). subst⁻¹ ok e h) (λ (k : x ∈ []). absurd (Memᴰ.not-nil k)) (Memᴰ.cases_cons m)
  all_behind (z ∷ l) y a h x m =
      ⊎_elim (λ (e : x ≡ z). subst⁻¹ ok e (a z (Memᴰ.head refl)))
      (λ (k : x ∈ (l ++ y ∷ [])). all_behind l y (λ w i. a w (Memᴰ.tail i)) h x k)
      (Memᴰ.cases_cons m)
