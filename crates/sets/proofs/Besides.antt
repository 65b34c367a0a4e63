-- A set with one besides.
use mathlib.Core.Bool.{Bool, true, false, cond}
use mathlib.Core.Logic.{◌⊎◌, inl, inr, ⊎_elim}
use mathlib.Core.Path.{◌≡◌}
use Prim.Native.Nat.{ℕ}
use lib.Dec.{T, eqb, eqb→eq, eqb_refl}
use Rattle.sets.specs.Sets.{◌⊆◌, ◌with◌}

pub with_itself : (S : ℕ → Bool) (a : ℕ) → T ((S with a) a)
with_itself S a = go (eqb a a) (eqb_refl a)
  where
    go : (b : Bool) → T b → T (cond b true (S a))
    go true h = tt
    go false h = absurd h

pub with_⊇ : (S : ℕ → Bool) (a : ℕ) → S ⊆ S with a
with_⊇ S a b h = go (eqb b a)
  where
    go : (x : Bool) → T (cond x true (S b))
    go true = tt
    go false = h

pub with_cases : (S : ℕ → Bool) (a b : ℕ) → T ((S with a) b) → (b ≡ a) ⊎ T (S b)
with_cases S a b h = go (eqb b a) (λ t. eqb→eq b a t) h
  where
    go : (x : Bool) → (T x → b ≡ a) → T (cond x true (S b)) → (b ≡ a) ⊎ T (S b)
    go true f k = inl (f tt)
    go false f k = inr k

pub with_⊆ : (S S' : ℕ → Bool) (a : ℕ) → S ⊆ S' → T (S' a) → S with a ⊆ S'
with_⊆ S S' a s h b k = ⊎_elim (λ (e : b ≡ a). rw e h) (λ (m : T (S b)). s b m) (with_cases S a b k)
