-- Believed: sets of numbers by their tests: membership, one set in another, one besides, one left out, counting.
use Rattle.std.specs.Prelude.{Bool, true, false, cond, ℕ, zero, suc, T, eqb}
use mathlib.Core.List.{List, Memᴰ}

infix 20 ◌∈◌
-- membership in a list
abbrev pub ◌∈◌ : {A : Type 0} → A → List A → Type 0
x ∈ l = Memᴰ x l

infix 20 ◌⊆◌
-- each member of S is one of S'
abbrev pub ◌⊆◌ : (ℕ → Bool) → (ℕ → Bool) → Type 0
S ⊆ S' = (i : ℕ) → T (S i) → T (S' i)

infixl 30 ◌with◌
-- a set, and i besides
abbrev pub ◌with◌ : (ℕ → Bool) → ℕ → ℕ → Bool
(S with i) j = cond (eqb j i) true (S j)

infixl 30 ◌without◌
-- a set, but for i
abbrev pub ◌without◌ : (ℕ → Bool) → ℕ → ℕ → Bool
(S without i) j = cond (eqb j i) false (S j)

-- how many of the first N numbers are in a set
unfoldable pub count : ℕ → (ℕ → Bool) → ℕ
count zero S = 0
count (suc n) S = cond (S n) (suc (count n S)) (count n S)
