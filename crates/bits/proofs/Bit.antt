-- Laws about one bit of a number.
use mathlib.Core.Path.{◌≡◌, refl, sym, ap, ap₂, ◌∙◌}
use mathlib.Core.Logic.{◌≢◌}
use mathlib.Core.Bool.{Bool, true, false, not, cond, ◌||◌}
use Prim.Native.Nat.{ℕ, zero, suc, ◌+◌, ◌*◌, ◌/◌, ◌%◌, ◌^◌, ◌≤◌, ◌<◌}
use native.Mathlib.Nat.{zero-div, div-one, div_self, div-div-eq-div-mul, pow-succ', pow-suc, mul-mod_left, mul-div_cancel, zero-lt-suc, mod-lt, one-mul, not-suc-le-zero, div-eq_of_lt, lt_of_lt_of_le}
use native.Mathlib.Omega.{arith}
use lib.Dec.{eqb, lit<}
use lib.Arith.{lt-one}
use lib.Count.{ones, count_trailing_zeros, under, ones_step}
use lib.Pow.{pow_pos, pow_mono, shl_exact, shr-shr}
use lib.Bits.{bit_or, bit_xor, or_shr, or_mod, xor_shr, xor_mod}
use borrow.Author.Tests.{eqb-true}
use Rattle.sets.specs.Sets.{count}
use Rattle.sets.proofs.Counting.{count_≡, count_add}
use Rattle.bits.specs.Sets.{bit}

two_pos : 0 < 2
two_pos = zero-lt-suc 1

pub bit_of_zero : (j : ℕ) → bit 0 j ≡ false
bit_of_zero j = ap (λ (x : ℕ). eqb (x % 2) 1) (zero-div (2 ^ j))

-- the lowest bit
pub bit_first : (a : ℕ) → bit a 0 ≡ eqb (a % 2) 1
bit_first a = ap (λ (x : ℕ). eqb (x % 2) 1) (div-one a)

-- a higher bit is one of the half
pub bit_next : (a j : ℕ) → bit a (suc j) ≡ bit (a / 2) j
bit_next a j = ap (λ (x : ℕ). eqb (x % 2) 1) (ap (λ (x : ℕ). a / x) (pow-succ' 2 j) ∙ sym (div-div-eq-div-mul a 2 (2 ^ j)))

-- a bit of a number that was shifted down
pub bit_of_shifted : (a k j : ℕ) → bit (a / 2 ^ k) j ≡ bit a (k + j)
bit_of_shifted a k j = ap (λ (x : ℕ). eqb (x % 2) 1) (shr-shr a k j)

-- a number of k bits has no higher ones
pub bit_past : (k a j : ℕ) → a < 2 ^ k → k ≤ j → bit a j ≡ false
bit_past k a j h le = ap (λ (x : ℕ). eqb (x % 2) 1) (div-eq_of_lt (lt_of_lt_of_le h (pow_mono le)))

pub bit_pow_same : (j : ℕ) → bit (2 ^ j) j ≡ true
bit_pow_same j = ap (λ (x : ℕ). eqb (x % 2) 1) (div_self (pow_pos j))

pub bit_pow_other : (k j : ℕ) → j ≢ k → bit (2 ^ k) j ≡ false
bit_pow_other zero zero h = absurd (h refl)
bit_pow_other zero (suc j) h = bit_next 1 j ∙ bit_of_zero j
bit_pow_other (suc k) zero h = bit_first (2 ^ suc k) ∙ ap (λ (x : ℕ). eqb x 1) (ap (λ (x : ℕ). x % 2) (pow-suc 2 k) ∙ mul-mod_left (2 ^ k) 2)
bit_pow_other (suc k) (suc j) h =
    bit_next (2 ^ suc k) j ∙ ap (λ (x : ℕ). bit x j) (ap (λ (x : ℕ). x / 2) (pow-suc 2 k) ∙ mul-div_cancel (2 ^ k) two_pos)
    ∙ bit_pow_other k j (λ e. h (ap suc e))

or_digit : (x y : ℕ) → x < 2 → y < 2 → eqb (bit_or x y) 1 ≡ (eqb x 1 || eqb y 1)
or_digit zero zero hx hy = refl
or_digit zero (suc zero) hx hy = refl
or_digit (suc zero) zero hx hy = refl
or_digit (suc zero) (suc zero) hx hy = refl
or_digit zero (suc (suc y)) hx hy = absurd (omega arith)
or_digit (suc zero) (suc (suc y)) hx hy = absurd (omega arith)
or_digit (suc (suc x)) zero hx hy = absurd (omega arith)
or_digit (suc (suc x)) (suc y) hx hy = absurd (omega arith)

pub bit_or_lem : (a b j : ℕ) → bit (bit_or a b) j ≡ (bit a j || bit b j)
bit_or_lem a b j =
    ap (λ (x : ℕ). eqb x 1) (ap (λ (x : ℕ). x % 2) (or_shr a b j) ∙ or_mod (a / 2 ^ j) (b / 2 ^ j) 1)
    ∙ or_digit (a / 2 ^ j % 2) (b / 2 ^ j % 2) (mod-lt (a / 2 ^ j) two_pos) (mod-lt (b / 2 ^ j) two_pos)

same_digit : (x y : ℕ) → x < 2 → y < 2 → eqb x 1 ≡ eqb y 1 → x ≡ y
same_digit zero zero hx hy e = refl
same_digit zero (suc zero) hx hy e = absurd (omega (arith, eqb-true 0 1 e))
same_digit (suc zero) zero hx hy e = absurd (omega (arith, eqb-true 0 1 (sym e)))
same_digit (suc zero) (suc zero) hx hy e = refl
same_digit zero (suc (suc y)) hx hy e = absurd (omega arith)
same_digit (suc zero) (suc (suc y)) hx hy e = absurd (omega arith)
same_digit (suc (suc x)) zero hx hy e = absurd (omega arith)
same_digit (suc (suc x)) (suc y) hx hy e = absurd (omega arith)

-- two numbers of k bits with the same bits are equal
pub same_bits : (k a b : ℕ) → a < 2 ^ k → b < 2 ^ k → ((j : ℕ) → j < k → bit a j ≡ bit b j) → a ≡ b
same_bits zero a b ha hb h = omega arith
same_bits (suc k) a b ha hb h =
    let top : a / 2 ≡ b / 2 = same_bits k
    (a / 2) (b / 2) (omega (arith, pow-suc 2 k)) (omega (arith, pow-suc 2 k)) (λ j l. sym (bit_next a j) ∙ h (suc j) (omega arith) ∙ bit_next b j) in
    let low : a % 2 ≡ b % 2 = same_digit (a % 2) (b % 2) (mod-lt a two_pos) (mod-lt b two_pos) (sym (bit_first a) ∙ h 0 (omega arith) ∙ bit_first b) in
    omega arith

-- exactly one of the two
abbrev pub differs : Bool → Bool → Bool
differs true b = not b
differs false b = b

pub differs_false : (b : Bool) → differs b false ≡ b
differs_false true = refl
differs_false false = refl

xor_digit : (x y : ℕ) → x < 2 → y < 2 → eqb (bit_xor x y) 1 ≡ differs (eqb x 1) (eqb y 1)
xor_digit zero zero hx hy = refl
xor_digit zero (suc zero) hx hy = refl
xor_digit (suc zero) zero hx hy = refl
xor_digit (suc zero) (suc zero) hx hy = refl
xor_digit zero (suc (suc y)) hx hy = absurd (omega arith)
xor_digit (suc zero) (suc (suc y)) hx hy = absurd (omega arith)
xor_digit (suc (suc x)) zero hx hy = absurd (omega arith)
xor_digit (suc (suc x)) (suc y) hx hy = absurd (omega arith)

pub bit_xor_lem : (a b j : ℕ) → bit (bit_xor a b) j ≡ differs (bit a j) (bit b j)
bit_xor_lem a b j =
    ap (λ (x : ℕ). eqb x 1) (ap (λ (x : ℕ). x % 2) (xor_shr a b j) ∙ xor_mod (a / 2 ^ j) (b / 2 ^ j) 1)
    ∙ xor_digit (a / 2 ^ j % 2) (b / 2 ^ j % 2) (mod-lt (a / 2 ^ j) two_pos) (mod-lt (b / 2 ^ j) two_pos)

-- the shift of 1 by less than 64 loses nothing
pub one_shifted : (i : ℕ) → (1 * 2 ^ (i % 64)) % 2 ^ 64 ≡ 2 ^ (i % 64)
one_shifted i = shl_exact 1 (i % 64) 64 (lit< tt) (omega arith) ∙ one-mul (2 ^ (i % 64))

digit_counted : (x : ℕ) → x < 2 → x ≡ cond (eqb x 1) 1 0
digit_counted zero h = refl
digit_counted (suc zero) h = refl
digit_counted (suc (suc x)) h = absurd (omega arith)

-- the ones of a number of k bits are its set bits
pub ones_count : (k n : ℕ) → n < 2 ^ k → ones n ≡ count k (bit n)
unfolding ones count
ones_count zero n h = ap ones (lt-one h)
ones_count (suc k) n h =
    let next : (i : ℕ) → suc i ≡ 1 + i = λ i. omega arith in
    ones_step n
    ∙ ap₂ ◌+◌ (digit_counted (n % 2) (mod-lt n two_pos) ∙ sym (ap (λ (b : Bool). cond b 1 0) (bit_first n)))
    (ones_count k (n / 2) (omega (arith, pow-suc 2 k))
    ∙ count_≡ k (bit (n / 2)) (λ i. bit n (1 + i)) (λ i l. sym (bit_next n i) ∙ ap (bit n) (next i)))
    ∙ sym (ap (λ (x : ℕ). count x (bit n)) (next k) ∙ count_add 1 k (bit n))

-- where the lowest one of a number stands
pub record LowestBit (k n t : ℕ) : Type 0 where
  pub below : t < k
  pub one : bit n t ≡ true
  pub zeros : (j : ℕ) → j < t → bit n j ≡ false

pub lowest_bit : (k n : ℕ) → n < 2 ^ k → n ≢ 0 → LowestBit k n (count_trailing_zeros k n)
unfolding count_trailing_zeros
lowest_bit zero n h ne = absurd (ne (lt-one h))
lowest_bit (suc k) n h ne = by (n % 2) refl (lowest_bit k (n / 2) (omega (arith, pow-suc 2 k)))
  where
    by : (d : ℕ) → n % 2 ≡ d → (n / 2 ≢ 0 → LowestBit k (n / 2) (count_trailing_zeros k (n / 2)))
        → LowestBit (suc k) n (under d (count_trailing_zeros k (n / 2)))
    by zero e rest =
        let up = rest (λ z. ne (omega arith)) in
        record {
          below = omega (arith, up.below);
          one = bit_next n (count_trailing_zeros k (n / 2)) ∙ up.one;
          zeros = elim [ zero ↦ λ l. bit_first n ∙ ap (λ (x : ℕ). eqb x 1) e | suc j ↦ λ l. bit_next n j ∙ up.zeros j (omega arith) ];
        }
    by (suc d) e rest =
        let one : n % 2 ≡ 1 = omega (arith, mod-lt n two_pos) in
        record {
          below = omega arith;
          one = bit_first n ∙ ap (λ (x : ℕ). eqb x 1) one;
          zeros = λ j l. absurd (not-suc-le-zero l);
        }
