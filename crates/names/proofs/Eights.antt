-- Bytes compared many at a time: equal numbers are equal bytes. Assumes nothing.
use mathlib.Core.Path.{◌≡◌, refl, sym, ap, ap₂, ◌∙◌}
use mathlib.Core.List.{List}
use mathlib.Core.Bool.{Bool, true, false, ◌&&◌, true≢false}
use Prim.Native.Nat.{ℕ, zero, suc, ◌+◌, ◌-◌, ◌*◌, ◌<◌, ◌≤◌}
use native.Mathlib.Omega.{arith}
use lib.Dec.{eqb, ltb}
use borrow.Author.Tests.{eq-eqb, eqb-true, ltb-true, ltb-false}
use Rattle.reader.specs.Sheet.{byte_at}
use Rattle.names.specs.Names.{bytes_at, same_bytes}
use Rattle.names.specs.Eights.{pair_at, four_at, eight_at}

-- the n bytes from a on are those from b on
abbrev pub Same : List ℕ → ℕ → ℕ → ℕ → Type 0
Same s a b n = (j : ℕ) → j < n → byte_at s (a + j) ≡ byte_at s (b + j)

at : (s : List ℕ) (p q : ℕ) → p ≡ q → byte_at s p ≡ byte_at s q
at s p q e = ap (byte_at s) e

first_of : (s : List ℕ) (a b n : ℕ) → Same s a b (suc n) → byte_at s a ≡ byte_at s b
first_of s a b n h = at s a (a + 0) (omega arith) ∙ h 0 (omega arith) ∙ at s (b + 0) b (omega arith)

rest_of : (s : List ℕ) (a b n : ℕ) → Same s a b (suc n) → Same s (suc a) (suc b) n
rest_of s a b n h j l = at s (suc a + j) (a + suc j) (omega arith) ∙ h (suc j) (omega arith) ∙ at s (b + suc j) (suc b + j) (omega arith)

same_is_true : (s : List ℕ) (a b n : ℕ) → Same s a b n → same_bytes (bytes_at s a n) (bytes_at s b n) ≡ true
unfolding same_bytes bytes_at
same_is_true s a b zero h = refl
same_is_true s a b (suc n) h =
    ap₂ (λ (x y : Bool). x && y) (eq-eqb (byte_at s a) (byte_at s b) (first_of s a b n h)) (same_is_true s (suc a) (suc b) n (rest_of s a b n h))

both : (x y : Bool) → x && y ≡ true → (x ≡ true) × (y ≡ true)
both true y e = (refl, e)
both false y e = absurd (true≢false (sym e))

true_is_same : (s : List ℕ) (a b n : ℕ) → same_bytes (bytes_at s a n) (bytes_at s b n) ≡ true → Same s a b n
unfolding same_bytes bytes_at
true_is_same s a b zero e j l = absurd (omega arith)
true_is_same s a b (suc n) e zero l =
    at s (a + 0) a (omega arith)
    ∙ eqb-true (byte_at s a) (byte_at s b) (both (eqb (byte_at s a) (byte_at s b)) (same_bytes (bytes_at s (suc a) n) (bytes_at s (suc b) n)) e).0
    ∙ at s b (b + 0) (omega arith)
true_is_same s a b (suc n) e (suc j) l =
    at s (a + suc j) (suc a + j) (omega arith)
    ∙ true_is_same s (suc a) (suc b) n (both (eqb (byte_at s a) (byte_at s b)) (same_bytes (bytes_at s (suc a) n) (bytes_at s (suc b) n)) e).1 j (omega arith)
    ∙ at s (suc b + j) (b + suc j) (omega arith)

differs_is_false : (s : List ℕ) (a b n : ℕ) → (Same s a b n → ⊥) → same_bytes (bytes_at s a n) (bytes_at s b n) ≡ false
differs_is_false s a b n h = by (same_bytes (bytes_at s a n) (bytes_at s b n)) refl
  where
    by : (x : Bool) → same_bytes (bytes_at s a n) (bytes_at s b n) ≡ x → x ≡ false
    by true e = absurd (h (true_is_same s a b n e))
    by false e = refl

part : (s : List ℕ) (a b n i m : ℕ) → i + m ≤ n → Same s a b n → Same s (a + i) (b + i) m
part s a b n i m k h j l = at s (a + i + j) (a + (i + j)) (omega arith) ∙ h (i + j) (omega arith) ∙ at s (b + (i + j)) (b + i + j) (omega arith)

-- a front, and a part that begins in it or after it at once
join : (s : List ℕ) (a b i k m n : ℕ) → k ≤ i → n ≤ k + m → Same s a b i → Same s (a + k) (b + k) m → Same s a b n
join s a b i k m n h h' front rest j l = by (ltb j i) refl
  where
    by : (x : Bool) → ltb j i ≡ x → byte_at s (a + j) ≡ byte_at s (b + j)
    by true e = front j (ltb-true j i e)
    by false e =
        let later = ltb-false j i e in
        at s (a + j) (a + k + (j - k)) (omega arith) ∙ rest (j - k) (omega arith) ∙ at s (b + k + (j - k)) (b + j) (omega arith)

-- numbers of equal bytes are equal
same_pairs : (s : List ℕ) (a b : ℕ) → Same s a b 2 → pair_at s a ≡ pair_at s b
unfolding pair_at
same_pairs s a b h = ap₂ (λ (x y : ℕ). x + 256 * y) (first_of s a b 1 h) (h 1 (omega arith))

same_fours : (s : List ℕ) (a b : ℕ) → Same s a b 4 → four_at s a ≡ four_at s b
unfolding four_at
same_fours s a b h =
    ap₂ (λ (x y : ℕ). x + 65536 * y) (same_pairs s a b (λ j l. h j (omega arith))) (same_pairs s (a + 2) (b + 2) (part s a b 4 2 2 (omega arith) h))

same_eights : (s : List ℕ) (a b : ℕ) → Same s a b 8 → eight_at s a ≡ eight_at s b
unfolding eight_at
same_eights s a b h =
    ap₂ (λ (x y : ℕ). x + 4294967296 * y) (same_fours s a b (λ j l. h j (omega arith))) (same_fours s (a + 4) (b + 4) (part s a b 8 4 4 (omega arith) h))

-- and equal numbers are of equal bytes
module _ (s : List ℕ) (bytes : (i : ℕ) → byte_at s i < 256) where
  pair_small : (p : ℕ) → pair_at s p < 65536
  unfolding pair_at
  pair_small p = omega (arith, bytes p, bytes (p + 1))

  four_small : (p : ℕ) → four_at s p < 4294967296
  unfolding four_at
  four_small p = omega (arith, pair_small p, pair_small (p + 2))

  pairs_same : (a b : ℕ) → pair_at s a ≡ pair_at s b → Same s a b 2
  unfolding pair_at
  pairs_same a b e zero l =
      at s (a + 0) a (omega arith) ∙ omega (arith, e, bytes a, bytes b, bytes (a + 1), bytes (b + 1)) ∙ at s b (b + 0) (omega arith)
  pairs_same a b e (suc zero) l = omega (arith, e, bytes a, bytes b, bytes (a + 1), bytes (b + 1))
  pairs_same a b e (suc (suc j)) l = absurd (omega arith)

  fours_same : (a b : ℕ) → four_at s a ≡ four_at s b → Same s a b 4
  unfolding four_at
  fours_same a b e =
      let small : pair_at s a ≡ pair_at s b = omega (arith, e, pair_small a, pair_small b) in
      let large : pair_at s (a + 2) ≡ pair_at s (b + 2) = omega (arith, e, pair_small a, pair_small b) in
      join s a b 2 2 2 4 (omega arith) (omega arith) (pairs_same a b small) (pairs_same (a + 2) (b + 2) large)

  eights_same : (a b : ℕ) → eight_at s a ≡ eight_at s b → Same s a b 8
  unfolding eight_at
  eights_same a b e =
      let small : four_at s a ≡ four_at s b = omega (arith, e, four_small a, four_small b) in
      let large : four_at s (a + 4) ≡ four_at s (b + 4) = omega (arith, e, four_small a, four_small b) in
      join s a b 4 4 4 8 (omega arith) (omega arith) (fours_same a b small) (fours_same (a + 4) (b + 4) large)

  module _ (a b n : ℕ) where
    -- four to eight bytes: the first four and the last four
    pub fours_differ : (x y : ℕ) → 4 ≤ n → x ≡ four_at s a → y ≡ four_at s b
        → (x ≡ y → ⊥) → false ≡ same_bytes (bytes_at s a n) (bytes_at s b n)
    fours_differ x y h ex ey d =
        sym (differs_is_false s a b n (λ same. d (ex ∙ same_fours s a b (λ j l. same j (omega arith)) ∙ sym ey)))

    pub fours_decide : (x y x' y' : ℕ) → 4 ≤ n → n ≤ 8 → x ≡ four_at s a → y ≡ four_at s b
        → x ≡ y → x' ≡ four_at s (a + (n - 4)) → y' ≡ four_at s (b + (n - 4))
        → eqb x' y' ≡ same_bytes (bytes_at s a n) (bytes_at s b n)
    fours_decide x y x' y' h h' ex ey e ex' ey' = by (eqb x' y') refl
      where
        by : (t : Bool) → eqb x' y' ≡ t → t ≡ same_bytes (bytes_at s a n) (bytes_at s b n)
        by true q =
            sym (same_is_true s a b n
            (join s a b 4 (n - 4) 4 n
            (omega arith) (omega arith) (fours_same a b (sym ex ∙ e ∙ ey))
            (fours_same (a + (n - 4)) (b + (n - 4)) (sym ex' ∙ eqb-true x' y' q ∙ ey'))))
        by false q =
            sym (differs_is_false s a b n
            (λ same. true≢false
            (sym (eq-eqb x' y' (ex' ∙ same_fours s (a + (n - 4)) (b + (n - 4)) (part s a b n (n - 4) 4 (omega arith) same) ∙ sym ey')) ∙ q)))

    -- eight bytes or more: eight at a time
    pub eights_differ : (i x y : ℕ) → i + 8 ≤ n → x ≡ eight_at s (a + i) → y ≡ eight_at s (b + i)
        → (x ≡ y → ⊥) → false ≡ same_bytes (bytes_at s a n) (bytes_at s b n)
    eights_differ i x y h ex ey d =
        sym (differs_is_false s a b n (λ same. d (ex ∙ same_eights s (a + i) (b + i) (part s a b n i 8 h same) ∙ sym ey)))

    pub eight_more : (i x y : ℕ) → x ≡ eight_at s (a + i) → y ≡ eight_at s (b + i) → x ≡ y → Same s a b i → Same s a b (i + 8)
    eight_more i x y ex ey e front = join s a b i i 8 (i + 8) (omega arith) (omega arith) front (eights_same (a + i) (b + i) (sym ex ∙ e ∙ ey))

    -- and the last eight
    pub eights_decide : (i x y : ℕ) → 8 ≤ n → n - 8 ≤ i → x ≡ eight_at s (a + (n - 8)) → y ≡ eight_at s (b + (n - 8)) → Same s a b i
        → eqb x y ≡ same_bytes (bytes_at s a n) (bytes_at s b n)
    eights_decide i x y h h' ex ey front = by (eqb x y) refl
      where
        by : (t : Bool) → eqb x y ≡ t → t ≡ same_bytes (bytes_at s a n) (bytes_at s b n)
        by true q =
            sym (same_is_true s a b n
            (join s a b i (n - 8) 8 n h' (omega arith) front (eights_same (a + (n - 8)) (b + (n - 8)) (sym ex ∙ eqb-true x y q ∙ ey))))
        by false q =
            sym (differs_is_false s a b n
            (λ same. true≢false
            (sym (eq-eqb x y (ex ∙ same_eights s (a + (n - 8)) (b + (n - 8)) (part s a b n (n - 8) 8 (omega arith) same) ∙ sym ey)) ∙ q)))

pub none_same : (s : List ℕ) (a b : ℕ) → Same s a b 0
none_same s a b j l = absurd (omega arith)
