-- The last record and its last group.
use mathlib.Core.Path.{◌≡◌, refl, sym, ap}
use mathlib.Core.List.{List, [], ◌∷◌, ◌++◌}
use mathlib.Core.Bool.{Bool, true, false}
use mathlib.Core.Logic.{◌⊎◌, inl, inr}
use Prim.Native.Nat.{ℕ, suc, ◌<◌}
use native.Mathlib.Omega.{arith}
use lib.Dec.{ltb}
use lib.ListN.{length, get_or, length-append, get_or-append}
use lib.Seq.{get_or_at}
use borrow.Author.Tests.{ltb-true, ltb-false}
use Rattle.literals.specs.Literals.{on_last, last_or}

-- all but the last element
abbrev pub but_last : {A : Type 0} → List A → List A
but_last [] = []
but_last (x ∷ []) = []
but_last (x ∷ y ∷ l) = x ∷ but_last (y ∷ l)

-- a list that is not empty
abbrev pub Some : {A : Type 0} → List A → Type 0
Some [] = ⊥
Some (x ∷ l) = Unit {0}

pub some_snoc : {A : Type 0} (l : List A) (x : A) → Some (l ++ (x ∷ []))
some_snoc [] x = tt
some_snoc (y ∷ l) x = tt

pub snoc_of : {A : Type 0} (other : A) (l : List A) → Some l → l ≡ but_last l ++ (last_or other l ∷ [])
unfolding last_or
snoc_of other [] h = absurd h
snoc_of other (x ∷ []) h = refl
snoc_of other (x ∷ y ∷ l) h = ap (λ (t : List _). x ∷ t) (snoc_of x (y ∷ l) tt)

pub on_last_is : {A : Type 0} (f : A → A) (other : A) (l : List A) → Some l → on_last f l ≡ but_last l ++ (f (last_or other l) ∷ [])
unfolding on_last last_or
on_last_is f other [] h = absurd h
on_last_is f other (x ∷ []) h = refl
on_last_is f other (x ∷ y ∷ l) h = ap (λ (t : List _). x ∷ t) (on_last_is f x (y ∷ l) tt)

pub length_on_last : {A : Type 0} (f : A → A) (l : List A) → length (on_last f l) ≡ length l
unfolding on_last
length_on_last f [] = refl
length_on_last f (x ∷ []) = refl
length_on_last f (x ∷ y ∷ l) = ap suc (length_on_last f (y ∷ l))

pub but_last_snoc : {A : Type 0} (l : List A) (x : A) → but_last (l ++ (x ∷ [])) ≡ l
but_last_snoc [] x = refl
but_last_snoc (y ∷ []) x = refl
but_last_snoc (y ∷ z ∷ l) x = ap (λ (t : List _). y ∷ t) (but_last_snoc (z ∷ l) x)

pub last_snoc : {A : Type 0} (other : A) (l : List A) (x : A) → last_or other (l ++ (x ∷ [])) ≡ x
unfolding last_or
last_snoc other [] x = refl
last_snoc other (y ∷ l) x = last_snoc y l x

-- below the end of a list with one more at its end: an element of the list, or that one
abbrev pub Below : {A : Type 0} → A → List A → A → ℕ → Type 0
Below other l x i =
    ((i < length l) × (get_or (l ++ (x ∷ [])) i other ≡ get_or l i other)) ⊎ ((i ≡ length l) × (get_or (l ++ (x ∷ [])) i other ≡ x))

pub below_snoc : {A : Type 0} (other : A) (l : List A) (x : A) (i : ℕ) → i < length (l ++ (x ∷ [])) → Below other l x i
below_snoc other l x i h = by (ltb i (length l)) refl
  where
    by : (b : Bool) → ltb i (length l) ≡ b → Below other l x i
    by true q = inl (ltb-true i (length l) q, get_or-append l (x ∷ []) other i (ltb-true i (length l) q))
    by false q =
        let last : i ≡ length l = omega (arith, ltb-false i (length l) q, length-append l (x ∷ [])) in inr (last, get_or_at l x [] other i (sym last))
