-- A text is read without a fault exactly if it is a good one, and the first fault is where it can no longer be the beginning of one. Assumes nothing.
use mathlib.Core.Bool.{Bool, true, false, true≢false, not, cond, ◌&&◌}
use mathlib.Core.List.Memᴰ
use mathlib.Core.List.{List, [], ◌∷◌, ◌++◌, append_assoc}
use mathlib.Core.Path.{◌≡◌, refl, sym, ap, ap₂, ◌∙◌, subst⁻¹}
use Prim.Native.Nat.{ℕ, suc, ◌+◌, ◌-◌, ◌*◌, ◌/◌, ◌%◌, ◌≤◌}
use native.Mathlib.Omega.{arith}
use lib.Dec.{leb, eqb, eqb_refl}
use lib.ListN.{length, length-append}
use lib.Seq.{append_snoc}
use borrow.Author.Tests.{le-leb, leb-true, eqb-true, not-true, not-false}
use Rattle.sets.proofs.Tests.{T→true, and_both}
use Rattle.limits.specs.Limits.{most_four_digits}
use Rattle.decimals.specs.Decimals.{digit, is_digit, decimal}
use Rattle.decimals.proofs.Laws.{decimal_small, decimal_more, decimal_digit, by_digits}
use Rattle.reasontext.specs.ReasonSheet.{ReasonLine, IsReasonText}
use Rattle.reasontext.specs.Reading.{separator, after_field, with_digit, number_goes_on, breaks, TextRead, broken, at_end, number_then, read_from, read_text, lines_in}
use Rattle.reasontext.proofs.Flat.{flat_text, field_after, Small, all_cons, numbers_of, reason_text_flat, lines_in_numbers_of, lines_field, lines_small, flat_good}
use Rattle.std.specs.Prelude.{Ok}

-- a digit's byte
is_digit_lem : (d : ℕ) → d ≤ 9 → is_digit (digit d) ≡ true
unfolding is_digit
is_digit_lem d h = rw (le-leb 48 (48 + d) (omega arith), le-leb (48 + d) 57 (omega arith)) refl

pub digit_bounds : (b : ℕ) → is_digit b ≡ true → (48 ≤ b) × (b ≤ 57)
unfolding is_digit
digit_bounds b e = let q = and_both (leb 48 b) (leb b 57) e in (leb-true 48 b q.0, leb-true b 57 q.1)

separator_no_digit : (f : ℕ) → is_digit (separator f) ≡ false
unfolding is_digit
separator_no_digit f = go (eqb f 3)
  where
    go : (c : Bool) → is_digit (cond c 10 9) ≡ false
    go true = refl
    go false = refl

module _ (f p : ℕ) (rest : List ℕ) where
  first_digit : (d : ℕ) → d ≤ 9 → read_from f false 0 p (digit d ∷ rest) ≡ read_from f true d (p + 1) rest
  unfolding read_from breaks
  first_digit d h =
      let e : with_digit 0 (digit d) ≡ d = omega arith in
      let q : suc p ≡ p + 1 = omega arith in
      rw (is_digit_lem d h) (ap₂ (λ (x y : ℕ). read_from f true x y rest) e q)

  next_digit : (n d : ℕ) → 1 ≤ n → n ≤ 999 → d ≤ 9 → read_from f true n p (digit d ∷ rest) ≡ read_from f true (10 * n + d) (p + 1) rest
  unfolding read_from breaks
  next_digit n d l h k =
      let e : with_digit n (digit d) ≡ 10 * n + d = omega arith in
      let q : suc p ≡ p + 1 = omega arith in
      rw (is_digit_lem d k, le-leb 1 n l, le-leb n 999 h) (ap₂ (λ (x y : ℕ). read_from f true x y rest) e q)

  separator_read : (n : ℕ) → read_from f true n p (separator f ∷ rest) ≡ number_then n (read_from (after_field f) false 0 (suc p) rest)
  unfolding read_from breaks
  separator_read n = rw (separator_no_digit f, T→true (eqb (separator f) (separator f)) (eqb_refl (separator f))) refl

-- the digits of a number are read
digits_read : (f n p : ℕ) (rest : List ℕ) → n ≤ most_four_digits
    → read_from f false 0 p (decimal n ++ rest) ≡ read_from f true n (p + length (decimal n)) rest
digits_read f = by_digits
    (λ n. (p : ℕ) (rest : List ℕ) → n ≤ most_four_digits → read_from f false 0 p (decimal n ++ rest) ≡ read_from f true n
    (p + length (decimal n)) rest)
    (λ n h p rest s. rw (decimal_small n h) (first_digit f p rest n (omega arith)))
    (λ n h r p rest s. more n h r p rest s)
  where
    more : (n : ℕ) → 10 ≤ n
        → ((p : ℕ) (rest : List ℕ) → n / 10 ≤ most_four_digits
        → read_from f false 0 p (decimal (n / 10) ++ rest) ≡ read_from f true (n / 10) (p + length (decimal (n / 10))) rest)
        → (p : ℕ) (rest : List ℕ) → n ≤ most_four_digits → read_from f false 0 p (decimal n ++ rest) ≡ read_from f true n
        (p + length (decimal n)) rest
    more n h r p rest s =
        let u : List ℕ = decimal (n / 10) in
        let v : List ℕ = digit (n % 10) ∷ [] in
        let e : 10 * (n / 10) + n % 10 ≡ n = omega arith in
        let q : p + length u + 1 ≡ p + (length u + 1) = omega arith in
        rw (decimal_more n h)
        (ap (read_from f false 0 p) (append_assoc u v rest) ∙ r p (digit (n % 10) ∷ rest) (omega arith)
        ∙ next_digit f (p + length u) rest (n / 10) (n % 10) (omega arith) (omega arith) (omega arith)
        ∙ ap₂ (λ (x y : ℕ). read_from f true x y rest) e (q ∙ ap (λ (x : ℕ). p + x) (sym (length-append u v))))

abbrev pub good : List ℕ → TextRead
good ns = record { fault = Ok tt; numbers = ns }

-- a good text is read without a fault
flat_read : (ns : List ℕ) (f p : ℕ) → Small ns → field_after f ns ≡ 0 → read_from f false 0 p (flat_text f ns) ≡ good ns
unfolding read_from at_end flat_text field_after
flat_read [] f p s e = rw e refl
flat_read (n ∷ ns) f p s e =
    digits_read f n p (separator f ∷ flat_text (after_field f) ns) (s n (mathlib.Core.List.Memᴰ.head refl))
    ∙ separator_read f (p + length (decimal n)) (flat_text (after_field f) ns) n
    ∙ ap (number_then n) (flat_read ns (after_field f) (suc (p + length (decimal n))) (λ x m. s x (mathlib.Core.List.Memᴰ.tail m)) e)

pub good_read : (text : List ℕ) (ls : List ReasonLine) → IsReasonText text ls → read_text text ≡ good (numbers_of ls)
good_read text ls g =
    ap read_text (g.text_is ∙ reason_text_flat ls) ∙ flat_read (numbers_of ls) 0 0 (lines_small ls g.four_digits) (lines_field ls)

-- a good text has one reading
pub good_lines : (text : List ℕ) (ls : List ReasonLine) → IsReasonText text ls → ls ≡ lines_in (read_text text).numbers
good_lines text ls g = sym (lines_in_numbers_of ls) ∙ ap (λ (r : TextRead). lines_in r.numbers) (sym (good_read text ls g))

-- the digits of a number that has begun
unfoldable pub front : Bool → ℕ → List ℕ
front begun n = cond begun (decimal n) []

unfoldable pub Begun : Bool → ℕ → Type 0
Begun begun n = (begun ≡ false → n ≡ 0) × (n ≤ most_four_digits)

pub record DigitFits (begun : Bool) (n b : ℕ) : Type 0 where
  pub digits : front begun n ++ (b ∷ []) ≡ decimal (with_digit n b)
  pub small : with_digit n b ≤ most_four_digits

pub digit_fits : (f : ℕ) (begun : Bool) (n b : ℕ) → Begun begun n → is_digit b ≡ true → breaks f begun n b ≡ false → DigitFits begun n b
unfolding breaks front Begun
digit_fits f false n b z d k =
    let q = digit_bounds b d in
    let n0 = z.0 refl in
    let e : with_digit n b ≡ b - 48 = omega arith in
    let e' : 48 + (b - 48) ≡ b = omega arith in
    record {
      digits = sym (ap decimal e ∙ decimal_small (b - 48) (omega arith) ∙ ap (λ (x : ℕ). x ∷ []) e');
      small = omega arith;
    }
digit_fits f true n b z d k =
    let q = digit_bounds b d in
    let g = and_both (leb 1 n) (leb n 999) (not-false (number_goes_on n) (sym (rw d) ∙ k)) in
    let l = leb-true 1 n g.0 in
    let h = leb-true n 999 g.1 in
    let e' : 48 + (b - 48) ≡ b = omega arith in
    record {
      digits = sym (decimal_digit n (b - 48) l (omega arith) ∙ ap (λ (x : ℕ). decimal n ++ x ∷ []) e');
      small = omega arith;
    }

pub separator_fits : (f : ℕ) (begun : Bool) (n b : ℕ) → is_digit b ≡ false → breaks f begun n b ≡ false → (begun ≡ true) × (b ≡ separator f)
unfolding breaks
separator_fits f begun n b d k =
    let q = and_both begun (eqb b (separator f)) (not-false (begun && eqb b (separator f)) (sym (rw d) ∙ k)) in
    (q.0, eqb-true b (separator f) q.1)

-- a text that is read without a fault is its numbers
record ReadGood (f : ℕ) (begun : Bool) (n : ℕ) (bs ns : List ℕ) : Type 0 where
  text_is : front begun n ++ bs ≡ flat_text f ns
  small : Small ns
  field : field_after f ns ≡ 0

end_good : (f : ℕ) (begun : Bool) (n p : ℕ) → (at_end f begun p).fault ≡ Ok tt → ReadGood f begun n [] (at_end f begun p).numbers
unfolding at_end front flat_text field_after
end_good f begun n p x = go (eqb f 0 && not begun) refl x
  where
    go : (c : Bool) → (eqb f 0 && not begun) ≡ c → (cond c (good []) (broken p)).fault ≡ Ok tt
        → ReadGood f begun n [] (cond c (good []) (broken p)).numbers
    go false e y = let z : ◌≡◌ {A = ℕ} 0 1 = cc in absurd (omega arith)
    go true e y =
        let q = and_both (eqb f 0) (not begun) e in
        let b : begun ≡ false = not-true begun q.1 in
        record { text_is = rw b refl; small = λ m i. absurd (Memᴰ.not-nil i); field = eqb-true f 0 q.0 }

read_good : (bs : List ℕ) (f : ℕ) (begun : Bool) (n p : ℕ) → Begun begun n → (read_from f begun n p bs).fault ≡ Ok tt
    → ReadGood f begun n bs (read_from f begun n p bs).numbers
unfolding read_from front Begun flat_text field_after
read_good [] f begun n p z x = end_good f begun n p x
read_good (b ∷ bs) f begun n p z x =
    go (breaks f begun n b) refl (is_digit b) refl (λ s y. read_good bs f true (with_digit n b) (suc p) s y)
    (λ s y. read_good bs (after_field f) false 0 (suc p) s y) x
  where
    R : TextRead
    R = read_from f true (with_digit n b) (suc p) bs

    S : TextRead
    S = read_from (after_field f) false 0 (suc p) bs

    go : (c : Bool) → breaks f begun n b ≡ c → (d : Bool) → is_digit b ≡ d
        → (Begun true (with_digit n b) → R.fault ≡ Ok tt → ReadGood f true (with_digit n b) bs R.numbers)
        → (Begun false 0 → S.fault ≡ Ok tt → ReadGood (after_field f) false 0 bs S.numbers)
        → (cond c (broken p) (cond d R (number_then n S))).fault ≡ Ok tt
        → ReadGood f begun n (b ∷ bs) (cond c (broken p) (cond d R (number_then n S))).numbers
    go true k d e r s y = let w : ◌≡◌ {A = ℕ} 0 1 = cc in absurd (omega arith)
    go false k true e r s y =
        let q = digit_fits f begun n b z e k in
        let g = r ((λ h. absurd (true≢false h)), q.small) y in
        record {
          text_is = sym (append_snoc (front begun n) b bs) ∙ ap (λ (l : List ℕ). l ++ bs) q.digits ∙ g.text_is;
          small = g.small;
          field = g.field;
        }
    go false k false e r s y =
        let q = separator_fits f begun n b e k in
        let g = s ((λ h. refl), omega arith) y in
        record {
          text_is = rw (q.0, q.1) (ap (λ (l : List ℕ). decimal n ++ separator f ∷ l) g.text_is);
          small = all_cons z.1 g.small;
          field = g.field;
        }

-- so it is a good one
pub read_lines : (text : List ℕ) → (read_text text).fault ≡ Ok tt → IsReasonText text (lines_in (read_text text).numbers)
unfolding front Begun
read_lines text x =
    let g = read_good text 0 false 0 0 ((λ h. refl), omega arith) x in
    subst⁻¹ (λ (t : List ℕ). IsReasonText t (lines_in (read_text text).numbers)) g.text_is
    (flat_good (read_text text).numbers g.field g.small)
