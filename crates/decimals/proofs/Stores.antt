-- Bytes stored one after the other, and digits stored from the last on. Assumes nothing.
use mathlib.Core.List.{List, [], ◌∷◌, ◌++◌}
use mathlib.Core.Path.{◌≡◌, refl, sym, ap, ◌∙◌}
use Prim.Native.Nat.{ℕ, suc, ◌+◌, ◌/◌, ◌-◌, ◌%◌, ◌≤◌, ◌<◌}
use native.Mathlib.Omega.{arith}
use lib.ListN.{length, set}
use lib.Seq.{sets, set_comm}
use Rattle.decimals.specs.Decimals.{digit, decimal}
use Rattle.decimals.proofs.Laws.{decimal_small, decimal_more, length_more}

-- stores one after the other
pub sets_append : (t : List ℕ) (i : ℕ) (u v : List ℕ) → sets t i (u ++ v) ≡ sets (sets t i u) (i + length u) v
sets_append t i [] v = let here : i ≡ i + 0 = omega arith in ap (λ (x : ℕ). sets t x v) here
sets_append t i (b ∷ u) v =
    let there : suc i + length u ≡ i + suc (length u) = omega arith in
    sets_append (set t i b) (suc i) u v ∙ ap (λ (x : ℕ). sets (sets (set t i b) (suc i) u) x v) there

-- a store behind others may come before them
pub set_before : (u t : List ℕ) (i j b : ℕ) → i + length u ≤ j → set (sets t i u) j b ≡ sets (set t j b) i u
set_before [] t i j b h = refl
set_before (x ∷ u) t i j b h =
    set_before u (set t i x) (suc i) j b (omega arith) ∙ ap (λ (s : List ℕ). sets s (suc i) u) (set_comm t i j x b (λ e. omega arith))

-- the last digit is stored, the others are to come
pub digits_turn : (t : List ℕ) (at left end d : ℕ) → 10 ≤ left → end ≡ at + length (decimal left) → d ≡ digit (left % 10)
    → {whole : List ℕ} → sets t at (decimal left) ≡ whole → sets (set t (end - 1) d) at (decimal (left / 10)) ≡ whole
digits_turn t at left end d h ee ed inv =
    let k : end - 1 ≡ at + length (decimal (left / 10)) = omega (arith, length_more left h) in
    rw (k, ed)
    (sym (set_before (decimal (left / 10)) t at (at + length (decimal (left / 10))) (digit (left % 10)) (omega arith))
    ∙ sym (sets_append t at (decimal (left / 10)) (digit (left % 10) ∷ []))
    ∙ ap (sets t at) (sym (decimal_more left h)) ∙ inv)

pub last_digit : (t : List ℕ) (at left d : ℕ) → left < 10 → d ≡ digit left → {whole : List ℕ} → sets t at (decimal left) ≡ whole
    → set t at d ≡ whole
last_digit t at left d h ed inv = rw ed (sym (ap (sets t at) (decimal_small left h)) ∙ inv)
