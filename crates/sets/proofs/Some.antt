-- One of the first N numbers is in a set: found, or there is none. Assumes nothing.
use mathlib.Core.Bool.{Bool, true, false, ◌||◌}
use mathlib.Core.Logic.{⊎_elim}
use mathlib.Core.Path.{◌≡◌, refl, sym, ap, ◌∙◌}
use Prim.Native.Nat.{ℕ, zero, suc, ◌+◌, ◌-◌, ◌≤◌, ◌<◌}
use native.Mathlib.Omega.{arith}
use native.Mathlib.Decide.{ℕ_discrete}
use lib.Dec.{T}
use Rattle.std.specs.List.{list_any, range_with_len}
use Rattle.sets.specs.Some.{some_below}
use Rattle.sets.proofs.Tests.{or_left, or_right, or_cases}

module _ (S : ℕ → Bool) where
  -- of n numbers from a number on
  abbrev any : ℕ → ℕ → Bool
  any from n = list_any S (range_with_len from n)

  any→ : (from n : ℕ) → T (any from n) → (a : ℕ) × T (S a)
  any→ from zero t = absurd t
  any→ from (suc n) t = ⊎_elim (λ (x : T (S from)). (from, x)) (any→ (from + 1) n) (or_cases (S from) (any (from + 1) n) t)

  →any : (from n a : ℕ) → from ≤ a → a < from + n → T (S a) → T (any from n)
  →any from zero a le lt t = absurd (omega arith)
  →any from (suc n) a le lt t =
      elim (ℕ_discrete a from) [
        | yes e ↦ or_left (S from) (any (from + 1) n) (rw (← e) t)
        | no e ↦ or_right (S from) (any (from + 1) n) (→any (from + 1) n a (omega arith) (omega arith) t)
      ]

  any_more : (from n : ℕ) → any from (suc n) ≡ (S (from + n) || any from n)
  any_more from zero = ap (λ (a : ℕ). S a || false) (omega arith)
  any_more from (suc n) =
      ap (λ (b : Bool). S from || b) (any_more (from + 1) n ∙ ap (λ (a : ℕ). S a || any (from + 1) n) (omega arith))
      ∙ swapped (S from) (S (from + suc n)) (any (from + 1) n)
    where
      swapped : (a b c : Bool) → (a || (b || c)) ≡ (b || (a || c))
      swapped true true c = refl
      swapped true false c = refl
      swapped false b c = refl

  pub some→ : (n : ℕ) → T (some_below S n) → (a : ℕ) × T (S a)
  some→ n t = any→ 0 n t

  pub →some : (n a : ℕ) → a < n → T (S a) → T (some_below S n)
  →some n a lt t = →any 0 n a (omega arith) (omega arith) t

  -- one number more
  pub some_more : (n : ℕ) → some_below S (suc n) ≡ (S n || some_below S n)
  some_more n = any_more 0 n ∙ ap (λ (a : ℕ). S a || some_below S n) (omega arith)

  -- a turn of a loop that looks at the numbers from the last down: the one looked at is not in the set, ..
  pub some_goes_on : (a : ℕ) (b : Bool) → 0 < a → b ≡ S (a - 1) → b ≡ false → {whole : Bool}
      → some_below S a ≡ whole → some_below S (a - 1) ≡ whole
  some_goes_on zero b lt e f inv = absurd (omega arith)
  some_goes_on (suc n) b lt e f inv =
      let k : suc n - 1 ≡ n = omega arith in
      rw k (sym (some_more n ∙ ap (λ (x : Bool). x || some_below S n) (sym (ap S k) ∙ sym e ∙ f)) ∙ inv)

  -- .. is in it, ..
  pub some_found : (a : ℕ) (b : Bool) → 0 < a → b ≡ S (a - 1) → b ≡ true → {whole : Bool} → some_below S a ≡ whole → true ≡ whole
  some_found zero b lt e f inv = absurd (omega arith)
  some_found (suc n) b lt e f inv =
      let k : suc n - 1 ≡ n = omega arith in
      sym (some_more n ∙ ap (λ (x : Bool). x || some_below S n) (sym (ap S k) ∙ sym e ∙ f)) ∙ inv

  -- .. or none is left
  pub some_end : (a : ℕ) → a ≤ 0 → {whole : Bool} → some_below S a ≡ whole → false ≡ whole
  some_end zero h inv = inv
  some_end (suc n) h inv = absurd (omega arith)
