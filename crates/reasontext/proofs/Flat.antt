-- A reason text as a row of numbers, each with what stands behind it; and as lines of four. Assumes nothing.
use mathlib.Core.List.Memᴰ
use mathlib.Core.List.{List, [], ◌∷◌, ◌++◌, append_assoc}
use mathlib.Core.Logic.{⊎_elim}
use mathlib.Core.Path.{◌≡◌, refl, sym, ap, ◌∙◌, subst⁻¹}
use Prim.Native.Nat.{ℕ, ◌≤◌}
use native.Mathlib.Omega.{arith}
use Rattle.sets.proofs.First.{All}
use Rattle.limits.specs.Limits.{most_four_digits}
use Rattle.decimals.specs.Decimals.{decimal}
use Rattle.reasontext.specs.ReasonSheet.{ReasonLine, FourDigits, IsReasonText, line_text, reason_text}
use Rattle.reasontext.specs.Reading.{separator, after_field, lines_in}

-- the numbers ns, the first of them being number f of its line
unfoldable pub flat_text : ℕ → List ℕ → List ℕ
flat_text f [] = []
flat_text f (n ∷ ns) = decimal n ++ separator f ∷ flat_text (after_field f) ns

-- which number of its line comes behind them
unfoldable pub field_after : ℕ → List ℕ → ℕ
field_after f [] = f
field_after f (n ∷ ns) = field_after (after_field f) ns

pub flat_append : (f : ℕ) (ms ns : List ℕ) → flat_text f (ms ++ ns) ≡ flat_text f ms ++ flat_text (field_after f ms) ns
unfolding flat_text field_after
flat_append f [] ns = refl
flat_append f (m ∷ ms) ns =
    ap (λ (x : List ℕ). decimal m ++ separator f ∷ x) (flat_append (after_field f) ms ns)
    ∙ sym (append_assoc (decimal m) (separator f ∷ flat_text (after_field f) ms) (flat_text (field_after (after_field f) ms) ns))

pub field_append : (f : ℕ) (ms ns : List ℕ) → field_after f (ms ++ ns) ≡ field_after (field_after f ms) ns
unfolding field_after
field_append f [] ns = refl
field_append f (m ∷ ms) ns = field_append (after_field f) ms ns

abbrev pub Small : List ℕ → Type 0
Small = All (λ n. n ≤ most_four_digits)

pub all_cons : {A : Type 0} {ok : A → Type 0} {x : A} {l : List A} → ok x → All ok l → All ok (x ∷ l)
all_cons {ok = ok} h f y m = ⊎_elim (λ e. subst⁻¹ ok e h) (λ k. f y k) (Memᴰ.cases_cons m)

-- the numbers of lines
unfoldable pub numbers_of : List ReasonLine → List ℕ
numbers_of [] = []
numbers_of (x ∷ ls) = x.literal ∷ x.rank ∷ x.rule_head ∷ x.group ∷ numbers_of ls

pub reason_text_flat : (ls : List ReasonLine) → reason_text ls ≡ flat_text 0 (numbers_of ls)
unfolding reason_text flat_text numbers_of
reason_text_flat [] = refl
reason_text_flat (x ∷ ls) =
    let l : List ℕ = decimal x.literal in
    let r : List ℕ = l ++ 9 ∷ decimal x.rank in
    let h : List ℕ = r ++ 9 ∷ decimal x.rule_head in
    let g : List ℕ = h ++ 9 ∷ decimal x.group in
    ap (λ (z : List ℕ). line_text x ++ z) (reason_text_flat ls) ∙ append_assoc g (10 ∷ []) _ ∙ append_assoc h (9 ∷ decimal x.group) _
    ∙ append_assoc r (9 ∷ decimal x.rule_head) _ ∙ append_assoc l (9 ∷ decimal x.rank) _

pub lines_in_numbers_of : (ls : List ReasonLine) → lines_in (numbers_of ls) ≡ ls
unfolding lines_in numbers_of
lines_in_numbers_of [] = refl
lines_in_numbers_of (x ∷ ls) = ap (λ (r : List ReasonLine). x ∷ r) (lines_in_numbers_of ls)

-- each four numbers are a line, where none is left over
pub numbers_of_lines_in : (ns : List ℕ) → field_after 0 ns ≡ 0 → numbers_of (lines_in ns) ≡ ns
unfolding lines_in numbers_of field_after
numbers_of_lines_in [] e = refl
numbers_of_lines_in (l ∷ []) e = absurd (omega arith)
numbers_of_lines_in (l ∷ r ∷ []) e = absurd (omega arith)
numbers_of_lines_in (l ∷ r ∷ h ∷ []) e = absurd (omega arith)
numbers_of_lines_in (l ∷ r ∷ h ∷ g ∷ ns) e = ap (λ (z : List ℕ). l ∷ r ∷ h ∷ g ∷ z) (numbers_of_lines_in ns e)

pub lines_field : (ls : List ReasonLine) → field_after 0 (numbers_of ls) ≡ 0
unfolding numbers_of field_after
lines_field [] = refl
lines_field (x ∷ ls) = lines_field ls

-- four digits
pub lines_small : (ls : List ReasonLine) → All FourDigits ls → Small (numbers_of ls)
unfolding numbers_of
lines_small [] f = λ n m. absurd (Memᴰ.not-nil m)
lines_small (x ∷ ls) f =
    let q = f x (Memᴰ.head refl) in
    all_cons q.literal_small (all_cons q.rank_small (all_cons q.head_small (all_cons q.group_small
    (lines_small ls (λ y m. f y (Memᴰ.tail m))))))

pub small_lines : (ns : List ℕ) → Small ns → All FourDigits (lines_in ns)
unfolding lines_in
small_lines [] f = λ n m. absurd (Memᴰ.not-nil m)
small_lines (l ∷ []) f = λ n m. absurd (Memᴰ.not-nil m)
small_lines (l ∷ r ∷ []) f = λ n m. absurd (Memᴰ.not-nil m)
small_lines (l ∷ r ∷ h ∷ []) f = λ n m. absurd (Memᴰ.not-nil m)
small_lines (l ∷ r ∷ h ∷ g ∷ ns) f =
    all_cons
    (record {
      literal_small = f l (Memᴰ.head refl);
      rank_small = f r (Memᴰ.tail (Memᴰ.head refl));
      head_small = f h (Memᴰ.tail (Memᴰ.tail (Memᴰ.head refl)));
      group_small = f g (Memᴰ.tail (Memᴰ.tail (Memᴰ.tail (Memᴰ.head refl))));
    })
    (small_lines ns (λ n m. f n (Memᴰ.tail (Memᴰ.tail (Memᴰ.tail (Memᴰ.tail m))))))

-- a row of small numbers that ends with a line is a good text
pub flat_good : (ns : List ℕ) → field_after 0 ns ≡ 0 → Small ns → IsReasonText (flat_text 0 ns) (lines_in ns)
flat_good ns e f =
    record {
      four_digits = small_lines ns f;
      text_is = ap (flat_text 0) (sym (numbers_of_lines_in ns e)) ∙ sym (reason_text_flat (lines_in ns));
    }
