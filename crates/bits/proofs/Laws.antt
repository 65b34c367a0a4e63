-- Laws of sets as rows of 64-bit words, over the index.
use mathlib.Core.Path.{◌≡◌, refl, sym, ap, ap₂, ◌∙◌, subst, fun_ext}
use mathlib.Core.Logic.{◌≢◌}
use mathlib.Core.List.{List}
use mathlib.Core.Bool.{Bool, true, false, cond, ◌||◌, or-true, or-false, true≢false}
use Prim.Native.Nat.{ℕ, zero, suc, ◌+◌, ◌*◌, ◌/◌, ◌%◌, ◌^◌, ◌-◌, ◌<◌, ◌≤◌}
use native.Mathlib.Nat.{mod-lt, zero-lt-suc, mul-add, div-le_self, lt_of_le_of_lt}
use native.Mathlib.Decide.{ℕ_discrete, dec_lt}
use native.Mathlib.Omega.{arith}
use lib.Count.{ones, count_trailing_zeros}
use lib.Pow.{pow-lt}
use lib.Bits.{bit_or, bit_xor, or_lt, xor_lt}
use lib.ListN.{length, get_or, set, replicate, length-set, get_or-eq_default}
use lib.Seq.{get_or-set_same, get_or-set_other, set_out, ext_get_or}
use borrow.Author.Tests.{eq-eqb, ne_eqb}
use Rattle.sets.specs.Sets.{count, ◌with◌, ◌without◌}
use Rattle.sets.proofs.Counting.{count_≡, count_add}
use Rattle.bits.specs.Sets.{bit, member, changed, put_in}
use Rattle.bits.specs.Rows.{row_without, Words, lowest_from}
use Rattle.bits.proofs.Least.{lowest_from_at}
use Rattle.bits.proofs.Bit.{bit_past, bit_of_shifted, LowestBit, lowest_bit, ones_count, differs, differs_false, bit_of_zero, bit_or_lem, bit_xor_lem, bit_pow_same, bit_pow_other, same_bits}
use Rattle.std.specs.Prelude.{Some}

-- the word and the bit of an index tell the index
same_index : (i j : ℕ) → i / 64 ≡ j / 64 → i % 64 ≡ j % 64 → i ≡ j
same_index i j p q = omega arith

-- nothing past the last word is a member
pub member_past : (s : List ℕ) (i : ℕ) → 64 * length s ≤ i → member s i ≡ false
unfolding member
member_past s i h = ap (λ (w : ℕ). bit w (i % 64)) (get_or-eq_default s 0 (omega arith)) ∙ bit_of_zero (i % 64)

-- a member stands in some word
inside : (s : List ℕ) (i : ℕ) → member s i ≡ true → i < 64 * length s
inside s i e =
    elim (dec_lt i (64 * length s)) [
      | yes h ↦ h
      | no h ↦ absurd (true≢false (sym e ∙ member_past s i (omega arith)))
    ]

-- the numbers of one word are its bits
pub member_in_word : (s : List ℕ) (w j : ℕ) → j < 64 → member s (64 * w + j) ≡ bit (get_or s w 0) j
unfolding member
member_in_word s w j h =
    let q : (64 * w + j) / 64 ≡ w = omega arith in
    let r : (64 * w + j) % 64 ≡ j = omega arith in
    ap₂ (λ (x y : ℕ). bit (get_or s x 0) y) q r

-- a change of one word by an operation on bits: `on` says what it does to a bit, and leaves it where the other bit is not set
module _ (f : ℕ → ℕ → ℕ) (on : Bool → Bool → Bool)
    (bits : (a b j : ℕ) → bit (f a b) j ≡ on (bit a j) (bit b j)) (keeps : (x : Bool) → on x false ≡ x) where
  pub member_changed_same : (s : List ℕ) (i : ℕ) → i < 64 * length s → member (changed f s i) i ≡ on (member s i) true
  unfolding member changed
  member_changed_same s i h =
      ap (λ (w : ℕ). bit w (i % 64)) (get_or-set_same s (i / 64) (f (get_or s (i / 64) 0) (2 ^ (i % 64))) 0 (omega arith))
      ∙ bits (get_or s (i / 64) 0) (2 ^ (i % 64)) (i % 64)
      ∙ ap (on (bit (get_or s (i / 64) 0) (i % 64))) (bit_pow_same (i % 64))

  pub member_changed_other : (s : List ℕ) (i j : ℕ) → j ≢ i → member (changed f s i) j ≡ member s j
  unfolding member changed
  member_changed_other s i j ne =
      let v = f (get_or s (i / 64) 0) (2 ^ (i % 64)) in
      elim (ℕ_discrete (j / 64) (i / 64)) [
        | yes e ↦
            elim (dec_lt (i / 64) (length s)) [
              | yes l ↦
                  ap (λ (w : ℕ). bit w (j % 64)) (ap (λ (x : ℕ). get_or (set s (i / 64) v) x 0) e ∙ get_or-set_same s (i / 64) v 0 l)
                  ∙ bits (get_or s (i / 64) 0) (2 ^ (i % 64)) (j % 64)
                  ∙ ap (on (bit (get_or s (i / 64) 0) (j % 64))) (bit_pow_other (i % 64) (j % 64) (λ q. ne (same_index j i e q)))
                  ∙ keeps (bit (get_or s (i / 64) 0) (j % 64))
                  ∙ ap (λ (x : ℕ). bit (get_or s x 0) (j % 64)) (sym e)
              | no l ↦ ap (λ (t : List ℕ). bit (get_or t (j / 64) 0) (j % 64)) (set_out s (i / 64) v (omega arith))
            ]
        | no d ↦ ap (λ (w : ℕ). bit w (j % 64)) (get_or-set_other s (i / 64) (j / 64) v 0 d)
      ]

pub length_changed : (f : ℕ → ℕ → ℕ) (s : List ℕ) (i : ℕ) → length (changed f s i) ≡ length s
unfolding changed
length_changed f s i = length-set s (i / 64) (f (get_or s (i / 64) 0) (2 ^ (i % 64)))

pub changed_past : (f : ℕ → ℕ → ℕ) (s : List ℕ) (i : ℕ) → 64 * length s ≤ i → changed f s i ≡ s
unfolding changed
changed_past f s i h = set_out s (i / 64) (f (get_or s (i / 64) 0) (2 ^ (i % 64))) (omega arith)

words_changed : (f : ℕ → ℕ → ℕ) → ((a b : ℕ) → a < 2 ^ 64 → b < 2 ^ 64 → f a b < 2 ^ 64)
    → (s : List ℕ) (i : ℕ) → Words s → Words (changed f s i)
unfolding changed
words_changed f fits s i h j =
    let v = f (get_or s (i / 64) 0) (2 ^ (i % 64)) in
    elim (ℕ_discrete j (i / 64)) [
      | yes e ↦
          elim (dec_lt (i / 64) (length s)) [
            | yes l ↦
                subst (λ (x : ℕ). x < 2 ^ 64) (sym (ap (λ (x : ℕ). get_or (set s (i / 64) v) x 0) e ∙ get_or-set_same s (i / 64) v 0 l))
                (fits (get_or s (i / 64) 0) (2 ^ (i % 64)) (h (i / 64)) (pow-lt (mod-lt i (zero-lt-suc 63))))
            | no l ↦ subst (λ (t : List ℕ). get_or t j 0 < 2 ^ 64) (sym (set_out s (i / 64) v (omega arith))) (h j)
          ]
      | no d ↦ subst (λ (x : ℕ). x < 2 ^ 64) (sym (get_or-set_other s (i / 64) j v 0 d)) (h j)
    ]

-- ---- one member more

pub length_put_in : (s : List ℕ) (i : ℕ) → length (put_in s i) ≡ length s
length_put_in = length_changed bit_or

pub put_in_past : (s : List ℕ) (i : ℕ) → 64 * length s ≤ i → put_in s i ≡ s
put_in_past = changed_past bit_or

pub member_put_in_same : (s : List ℕ) (i : ℕ) → i < 64 * length s → member (put_in s i) i ≡ true
member_put_in_same s i h = member_changed_same bit_or ◌||◌ bit_or_lem or-false s i h ∙ or-true (member s i)

pub member_put_in_other : (s : List ℕ) (i j : ℕ) → j ≢ i → member (put_in s i) j ≡ member s j
member_put_in_other = member_changed_other bit_or ◌||◌ bit_or_lem or-false

-- as a set: the members, and i besides
pub member_put_in : (s : List ℕ) (i : ℕ) → i < 64 * length s → member (put_in s i) ≡ member s with i
member_put_in s i h =
    fun_ext (λ j. elim (ℕ_discrete j i) [
      | yes e ↦ ap (member (put_in s i)) e ∙ member_put_in_same s i h ∙ sym (ap (λ (b : Bool). cond b true (member s j)) (eq-eqb j i e))
      | no ne ↦ member_put_in_other s i j ne ∙ sym (ap (λ (b : Bool). cond b true (member s j)) (ne_eqb j i ne))
    ])

pub words_put_in : (s : List ℕ) (i : ℕ) → Words s → Words (put_in s i)
words_put_in = words_changed bit_or (or_lt 64)

-- ---- one member less

pub length_taken_out : (s : List ℕ) (i : ℕ) → length (row_without s i) ≡ length s
unfolding row_without
length_taken_out s i = by (member s i)
  where
    by : (b : Bool) → length (cond b (changed bit_xor s i) s) ≡ length s
    by true = length_changed bit_xor s i
    by false = refl

-- a member's bit is changed
pub taken_out_member : (s : List ℕ) (i : ℕ) → member s i ≡ true → changed bit_xor s i ≡ row_without s i
unfolding row_without
taken_out_member s i e = sym (ap (λ (b : Bool). cond b (changed bit_xor s i) s) e)

-- what is no member is not touched
pub taken_out_no_member : (s : List ℕ) (i : ℕ) → member s i ≡ false → s ≡ row_without s i
unfolding row_without
taken_out_no_member s i e = sym (ap (λ (b : Bool). cond b (changed bit_xor s i) s) e)

pub member_taken_out_same : (s : List ℕ) (i : ℕ) → member (row_without s i) i ≡ false
unfolding row_without
member_taken_out_same s i = by (member s i) refl
  where
    by : (b : Bool) → member s i ≡ b → member (cond b (changed bit_xor s i) s) i ≡ false
    by true e = member_changed_same bit_xor differs bit_xor_lem differs_false s i (inside s i e) ∙ ap (λ (b : Bool). differs b true) e
    by false e = e

pub member_taken_out_other : (s : List ℕ) (i j : ℕ) → j ≢ i → member (row_without s i) j ≡ member s j
unfolding row_without
member_taken_out_other s i j ne = by (member s i)
  where
    by : (b : Bool) → member (cond b (changed bit_xor s i) s) j ≡ member s j
    by true = member_changed_other bit_xor differs bit_xor_lem differs_false s i j ne
    by false = refl

-- as a set: the members but for i
pub member_taken_out : (s : List ℕ) (i : ℕ) → member (row_without s i) ≡ member s without i
member_taken_out s i =
    fun_ext (λ j. elim (ℕ_discrete j i) [
      | yes e ↦ ap (member (row_without s i)) e ∙ member_taken_out_same s i ∙ sym (ap (λ (b : Bool). cond b false (member s j)) (eq-eqb j i e))
      | no ne ↦ member_taken_out_other s i j ne ∙ sym (ap (λ (b : Bool). cond b false (member s j)) (ne_eqb j i ne))
    ])

pub words_taken_out : (s : List ℕ) (i : ℕ) → Words s → Words (row_without s i)
unfolding row_without
words_taken_out s i h = by (member s i)
  where
    by : (b : Bool) → Words (cond b (changed bit_xor s i) s)
    by true = words_changed bit_xor (xor_lt 64) s i h
    by false = h

-- ---- the whole row

-- two rows of one length with the same members are equal
pub same_members : (s t : List ℕ) → Words s → Words t → length s ≡ length t
    → ((i : ℕ) → member s i ≡ member t i) → s ≡ t
same_members s t hs ht e h =
    ext_get_or 0 s t e (λ w l. same_bits 64 (get_or s w 0) (get_or t w 0) (hs w) (ht w)
    (λ j b. sym (member_in_word s w j b) ∙ h (64 * w + j) ∙ member_in_word t w j b))

zeros : (n i : ℕ) → get_or {A = ℕ} (replicate n 0) i 0 ≡ 0
zeros zero i = refl
zeros (suc n) zero = refl
zeros (suc n) (suc i) = zeros n i

-- a row of zeros has no members
pub member_of_zeros : (n i : ℕ) → member (replicate n 0) i ≡ false
unfolding member
member_of_zeros n i = ap (λ (w : ℕ). bit w (i % 64)) (zeros n (i / 64)) ∙ bit_of_zero (i % 64)

pub words_of_zeros : (n : ℕ) → Words (replicate n 0)
words_of_zeros n w = rw (zeros n w) (omega arith)

-- ---- counting

-- the ones of a row's words count its members
pub count_word : (s : List ℕ) (w : ℕ) → get_or s w 0 < 2 ^ 64
    → count (64 * (w + 1)) (member s) ≡ count (64 * w) (member s) + ones (get_or s w 0)
count_word s w h =
    ap (λ (n : ℕ). count n (member s)) (mul-add 64 w 1)
    ∙ count_add (64 * w) 64 (member s)
    ∙ ap (λ (x : ℕ). count (64 * w) (member s) + x)
    (count_≡ 64 (λ i. member s (64 * w + i)) (bit (get_or s w 0)) (member_in_word s w) ∙ sym (ones_count 64 (get_or s w 0) h))

-- ---- the lowest member

-- a word without ones has no members
pub none_in_zero : (s : List ℕ) (i w : ℕ) → get_or s w 0 ≡ 0 → ((j : ℕ) → i ≤ j → j < 64 * w → member s j ≡ false)
    → (j : ℕ) → i ≤ j → j < 64 * (w + 1) → member s j ≡ false
unfolding member
none_in_zero s i w e below j from h =
    elim (dec_lt j (64 * w)) [
      | yes l ↦ below j from l
      | no l ↦
          let q : j / 64 ≡ w = omega arith in
          ap (λ (x : ℕ). bit x (j % 64)) (ap (λ (x : ℕ). get_or s x 0) q ∙ e) ∙ bit_of_zero (j % 64)
    ]

-- the lowest one of the first word that has any
lowest_in_word : (s : List ℕ) (n i w : ℕ) → i ≤ 64 * w → 64 * (w + 1) ≤ i + n → get_or s w 0 < 2 ^ 64 → get_or s w 0 ≢ 0
    → ((j : ℕ) → i ≤ j → j < 64 * w → member s j ≡ false)
    → Some (64 * w + count_trailing_zeros 64 (get_or s w 0)) ≡ lowest_from n i (member s)
lowest_in_word s n i w from room h ne below =
    let x = get_or s w 0 in
    let low = lowest_bit 64 x h ne in
    sym (lowest_from_at n i (64 * w + count_trailing_zeros 64 x) (member s) (omega arith) (omega (arith, low.below))
    (member_in_word s w (count_trailing_zeros 64 x) low.below ∙ low.one)
    (λ j z l. elim (dec_lt j (64 * w)) [
      | yes b ↦ below j z b
      | no b ↦
          let q : 64 * w + (j - 64 * w) ≡ j = omega arith in
          ap (member s) (sym q) ∙ member_in_word s w (j - 64 * w) (omega (arith, low.below)) ∙ low.zeros (j - 64 * w) (omega arith)
    ]))

-- the word of i, shifted down to it
module _ (s : List ℕ) (i : ℕ) {x : ℕ} (shifted : x ≡ get_or s (i / 64) 0 / 2 ^ (i % 64)) where
  member_shifted : (j : ℕ) → i % 64 + j < 64 → member s (i + j) ≡ bit x j
  unfolding member
  member_shifted j h =
      let q : (i + j) / 64 ≡ i / 64 = omega arith in
      let r : (i + j) % 64 ≡ i % 64 + j = omega arith in
      ap₂ (λ (y k : ℕ). bit (get_or s y 0) k) q r ∙ sym (bit_of_shifted (get_or s (i / 64) 0) (i % 64) j) ∙ ap (λ (y : ℕ). bit y j) (sym shifted)

  -- no ones are left: no members in the rest of the word
  pub none_shifted : x ≡ 0 → (j : ℕ) → i ≤ j → j < 64 * (i / 64 + 1) → member s j ≡ false
  none_shifted e j from h =
      let q : i + (j - i) ≡ j = omega arith in
      ap (member s) (sym q) ∙ member_shifted (j - i) (omega arith) ∙ ap (λ (y : ℕ). bit y (j - i)) e ∙ bit_of_zero (j - i)

  module _ (word : get_or s (i / 64) 0 < 2 ^ 64) (ne : x ≢ 0) where
    low : LowestBit 64 x (count_trailing_zeros 64 x)
    low = lowest_bit 64 x (rw shifted (lt_of_le_of_lt (div-le_self (get_or s (i / 64) 0) (2 ^ (i % 64))) word)) ne

    -- a one that is left is one of the word
    inside_word : i % 64 + count_trailing_zeros 64 x < 64
    inside_word =
        elim (dec_lt (i % 64 + count_trailing_zeros 64 x) 64) [
          | yes h ↦ h
          | no h ↦
              absurd (true≢false (sym low.one ∙ ap (λ (y : ℕ). bit y (count_trailing_zeros 64 x)) shifted
              ∙ bit_of_shifted (get_or s (i / 64) 0) (i % 64) (count_trailing_zeros 64 x)
              ∙ bit_past 64 (get_or s (i / 64) 0) (i % 64 + count_trailing_zeros 64 x) word (omega arith)))
        ]

    pub lowest_shifted : (n : ℕ) → 64 * (i / 64 + 1) ≤ i + n → Some (i + count_trailing_zeros 64 x) ≡ lowest_from n i (member s)
    lowest_shifted n room =
        let t = count_trailing_zeros 64 x in
        sym (lowest_from_at n i (i + t) (member s) (omega arith) (omega (arith, inside_word)) (member_shifted t inside_word ∙ low.one)
        (λ j from l.
        let q : i + (j - i) ≡ j = omega arith in
        ap (member s) (sym q) ∙ member_shifted (j - i) (omega (arith, inside_word)) ∙ low.zeros (j - i) (omega arith)))

-- ---- the turns of the two loops

pub count_turn : (s : List ℕ) (w : ℕ) {n x : ℕ} → get_or s w 0 < 2 ^ 64 → x ≡ get_or s w 0 → n ≡ count (64 * w) (member s)
    → n + ones x ≡ count (64 * (w + 1)) (member s)
count_turn s w h e inv = ap₂ (λ (m y : ℕ). m + ones y) inv e ∙ sym (count_word s w h)

pub lowest_turn : (s : List ℕ) (n i w : ℕ) {x : ℕ} → i ≤ 64 * w → 64 * (w + 1) ≤ i + n → get_or s w 0 < 2 ^ 64 → x ≡ get_or s w 0
    → x ≢ 0
    → ((j : ℕ) → i ≤ j → j < 64 * w → member s j ≡ false) → Some (64 * w + count_trailing_zeros 64 x) ≡ lowest_from n i (member s)
lowest_turn s n i w from room h e ne below =
    ap (λ (y : ℕ). Some (64 * w + count_trailing_zeros 64 y)) e
    ∙ lowest_in_word s n i w from room h (λ z. ne (e ∙ z)) below
