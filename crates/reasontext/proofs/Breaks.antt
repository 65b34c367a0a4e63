-- Where reading finds the first fault the text can no longer be the beginning of a good one, and up to there it is one. Assumes nothing.
use mathlib.Core.Bool.{Bool, true, false, true≢false, not, cond, ◌&&◌}
use mathlib.Core.List.Memᴰ
use mathlib.Core.List.{List, [], ◌∷◌, ◌++◌, append_assoc, append-nil}
use mathlib.Core.Path.{◌≡◌, refl, sym, ap, ◌∙◌, subst, subst⁻¹}
use Prim.Native.Nat.{ℕ, zero, suc, ◌+◌, ◌≤◌, ◌<◌}
use native.Mathlib.Omega.{arith}
use lib.Dec.{eqb}
use lib.ListN.{length, take, length-append}
use lib.Seq.{append_snoc, take_at, take-append-add}
use Rattle.sets.proofs.First.{all_behind}
use Rattle.limits.specs.Limits.{most_four_digits}
use Rattle.refusal.specs.declared.Refusal.{Refusal}
use Rattle.refusal.specs.Numbers.{text_broken}
use Rattle.decimals.specs.Decimals.{is_digit, decimal}
use Rattle.reasontext.specs.ReasonSheet.{ReasonLine, IsReasonText, Beginning, Broken}
use Rattle.reasontext.specs.Reading.{separator, after_field, with_digit, breaks, TextRead, broken, at_end, number_then, read_from, read_text, lines_in}
use Rattle.reasontext.proofs.Flat.{flat_text, flat_append, field_after, field_append, Small, all_cons, flat_good}
use Rattle.reasontext.proofs.Texts.{front, Begun, digit_fits, separator_fits, good, good_read}
use Rattle.std.specs.Prelude.{Ok, Err}

-- the numbers and the digits that were read, and where that leads whatever follows
record Reached (done : List ℕ) (f : ℕ) (begun : Bool) (n p : ℕ) : Type 0 where
  numbers : List ℕ
  text_is : done ≡ flat_text 0 numbers ++ front begun n
  field : field_after 0 numbers ≡ f
  small : Small numbers
  begun_is : Begun begun n
  place : p ≡ length done
  goes_on : (rest : List ℕ) → (read_text (done ++ rest)).fault ≡ (read_from f begun n p rest).fault

start : Reached [] 0 false 0 0
unfolding flat_text field_after front Begun
start =
    record {
      numbers = [];
      text_is = refl;
      field = refl;
      small = λ n m. absurd (Memᴰ.not-nil m);
      begun_is = ((λ h. refl), omega arith);
      place = refl;
      goes_on = λ rest. refl;
    }

module _ (done : List ℕ) (f : ℕ) (begun : Bool) (n p b : ℕ) (w : Reached done f begun n p) (k : breaks f begun n b ≡ false) where
  one_longer : suc p ≡ length (done ++ b ∷ [])
  one_longer = let e = w.place in let e' = length-append done (b ∷ []) in omega arith

  digit_more : is_digit b ≡ true → Reached (done ++ b ∷ []) f true (with_digit n b) (suc p)
  unfolding front Begun read_from
  digit_more d =
      let q = digit_fits f begun n b w.begun_is d k in
      record {
        numbers = w.numbers;
        text_is = ap (λ (l : List ℕ). l ++ b ∷ []) w.text_is ∙ append_assoc (flat_text 0 w.numbers) (front begun n) (b ∷ [])
            ∙ ap (λ (l : List ℕ). flat_text 0 w.numbers ++ l) q.digits;
        field = w.field;
        small = w.small;
        begun_is = ((λ h. absurd (true≢false h)), q.small);
        place = one_longer;
        goes_on = λ rest. ap (λ (l : List ℕ). (read_text l).fault) (append_snoc done b rest) ∙ w.goes_on (b ∷ rest) ∙ rw (k, d) refl;
      }

  number_more : is_digit b ≡ false → Reached (done ++ b ∷ []) (after_field f) false 0 (suc p)
  unfolding front Begun read_from flat_text field_after
  number_more d =
      let q = separator_fits f begun n b d k in
      let before : flat_text 0 w.numbers ++ front begun n ++ b ∷ [] ≡ flat_text 0 w.numbers ++ (decimal n ++ separator f ∷ []) =
      append_assoc (flat_text 0 w.numbers) (front begun n) (b ∷ []) ∙ rw (q.0, q.1) refl
      in
      record {
        numbers = w.numbers ++ n ∷ [];
        text_is = ap (λ (l : List ℕ). l ++ b ∷ []) w.text_is ∙ before
            ∙ ap (λ (g : ℕ). flat_text 0 w.numbers ++ (decimal n ++ separator g ∷ [])) (sym w.field)
            ∙ sym (flat_append 0 w.numbers (n ∷ [])) ∙ sym (append-nil (flat_text 0 (w.numbers ++ n ∷ [])));
        field = field_append 0 w.numbers (n ∷ []) ∙ ap after_field w.field;
        small = all_behind (λ m. m ≤ most_four_digits) w.numbers n w.small w.begun_is.1;
        begun_is = ((λ h. refl), omega arith);
        place = one_longer;
        goes_on = λ rest. ap (λ (l : List ℕ). (read_text l).fault) (append_snoc done b rest) ∙ w.goes_on (b ∷ rest) ∙ rw (k, d) refl;
      }

-- zeros that end a line
record Filled (f : ℕ) : Type 0 where
  zeros : List ℕ
  small : Small zeros
  field : field_after f zeros ≡ 0

fill : (f : ℕ) → f ≤ 3 → Filled f
unfolding field_after
fill zero h = record { zeros = []; small = λ n m. absurd (Memᴰ.not-nil m); field = refl }
fill (suc zero) h = record { zeros = 0 ∷ 0 ∷ 0 ∷ []; small = zero_first (zero_first (zero_first none)); field = refl }
  where
    none : Small []
    none n m = absurd (Memᴰ.not-nil m)

    zero_first : {ns : List ℕ} → Small ns → Small (0 ∷ ns)
    zero_first s = all_cons (omega arith) s
fill (suc (suc zero)) h = record {
  zeros = 0 ∷ 0 ∷ [];
  small = all_cons (omega arith)
      (all_cons (omega arith) (λ n m. absurd (Memᴰ.not-nil m)));
  field = refl;
}
fill (suc (suc (suc zero))) h = record { zeros = 0 ∷ []; small = all_cons (omega arith) (λ n m. absurd (Memᴰ.not-nil m)); field = refl }
fill (suc (suc (suc (suc f)))) h = absurd (omega arith)

pub after≤3 : (f : ℕ) → f ≤ 3 → after_field f ≤ 3
after≤3 zero h = omega arith
after≤3 (suc zero) h = omega arith
after≤3 (suc (suc zero)) h = omega arith
after≤3 (suc (suc (suc zero))) h = omega arith
after≤3 (suc (suc (suc (suc f)))) h = absurd (omega arith)

field≤3 : (ns : List ℕ) (f : ℕ) → f ≤ 3 → field_after f ns ≤ 3
unfolding field_after
field≤3 [] f h = h
field≤3 (n ∷ ns) f h = field≤3 ns (after_field f) (after≤3 f h)

-- what was reached without a fault is the beginning of a good text: the number ends, and zeros end the line
beginning : {done : List ℕ} {f : ℕ} {begun : Bool} {n p : ℕ} → Reached done f begun n p → Beginning done
unfolding flat_text field_after front Begun
beginning {done} {f} {begun} {n} {p} w =
    let h : f ≤ 3 = subst (λ (x : ℕ). x ≤ 3) w.field (field≤3 w.numbers 0 (omega arith)) in
    let z = fill (after_field f) (after≤3 f h) in
    let ns : List ℕ = w.numbers ++ n ∷ z.zeros in
    let g : IsReasonText (flat_text 0 ns) (lines_in ns) =
    flat_good ns (field_append 0 w.numbers (n ∷ z.zeros) ∙ ap (λ (x : ℕ). field_after x (n ∷ z.zeros)) w.field ∙ z.field)
    (small_append w.numbers w.small (all_cons w.begun_is.1 z.small))
    in
    let e : flat_text 0 ns ≡ flat_text 0 w.numbers ++ flat_text f (n ∷ z.zeros) =
    flat_append 0 w.numbers (n ∷ z.zeros) ∙ ap (λ (x : ℕ). flat_text 0 w.numbers ++ flat_text x (n ∷ z.zeros)) w.field
    in
    let t = tail begun z.zeros in (
      t.0,
      lines_in ns,
      subst (λ (l : List ℕ). IsReasonText l (lines_in ns))
          (e ∙ ap (λ (l : List ℕ). flat_text 0 w.numbers ++ l) (sym t.1) ∙ sym (append_assoc (flat_text 0 w.numbers) (front begun n) t.0)
          ∙ ap (λ (l : List ℕ). l ++ t.0) (sym w.text_is)) g,
    )
  where
    tail : (c : Bool) (zs : List ℕ) → (t : List ℕ) × (front c n ++ t ≡ flat_text f (n ∷ zs))
    tail true zs = (separator f ∷ flat_text (after_field f) zs, refl)
    tail false zs = (flat_text f (n ∷ zs), refl)

    small_append : (ms : List ℕ) {ns : List ℕ} → Small ms → Small ns → Small (ms ++ ns)
    small_append [] s t = t
    small_append (m ∷ ms) s t = all_cons (s m (mathlib.Core.List.Memᴰ.head refl))
        (small_append ms (λ x i. s x (mathlib.Core.List.Memᴰ.tail i)) t)

-- a text that is not read without a fault is not good
not_accepted : (text : List ℕ) {r : Refusal} → (read_text text).fault ≡ Err r → (ls : List ReasonLine) → IsReasonText text ls → ⊥
not_accepted text e ls g =
    let a : (read_text text).fault ≡ (Ok tt) = ap (λ (x : TextRead). x.fault) (good_read text ls g) in
    let z : ◌≡◌ {A = ℕ} 0 1 = cc in omega arith

-- the place where a fault stands
module _ {done : List ℕ} {f : ℕ} {begun : Bool} {n p : ℕ} (w : Reached done f begun n p) (bs : List ℕ) where
  stops : {r : Refusal} → (read_from f begun n p bs).fault ≡ Err r
      → ((rest : List ℕ) → p < length (done ++ bs) → (read_from f begun n p (take 1 bs ++ rest)).fault ≡ Ok tt → ⊥) → Broken (done ++ bs) p
  stops e further =
      let len = length-append done bs in
      let pl = w.place in
      record {
        inside = omega arith;
        so_far = subst⁻¹ Beginning (take_at done bs p (sym w.place)) (beginning w);
        no_further = λ lt g.
            let t : take (suc p) (done ++ bs) ≡ done ++ take 1 bs =
            (let q : suc p ≡ length done + 1 = omega arith in ap (λ (x : ℕ). take x (done ++ bs)) q ∙ take-append-add done bs 1)
            in
            let h = subst Beginning t g in
            let a = ap (λ (x : TextRead). x.fault) (good_read _ h.1 h.2) in
            further h.0 lt
            (sym (ap (λ (l : List ℕ). (read_text l).fault) (append_assoc done (take 1 bs) h.0) ∙ w.goes_on (take 1 bs ++ h.0)) ∙ a);
        not_good = not_accepted (done ++ bs) (w.goes_on bs ∙ e);
      }

broken_at : (bs done : List ℕ) (f : ℕ) (begun : Bool) (n p : ℕ) → Reached done f begun n p → {r : Refusal}
    → (read_from f begun n p bs).fault ≡ Err r
    → (q : ℕ) × (r ≡ text_broken q) × Broken (done ++ bs) q
unfolding read_from at_end
broken_at [] done f begun n p w {r} x = (
  p,
  place (eqb f 0 && not begun) x,
  stops w [] x
      (λ rest lt y. let a = length-append done [] in let b = w.place in omega arith),
)
  where
    place : (c : Bool) → (cond c (good []) (broken p)).fault ≡ Err r → r ≡ text_broken p
    place true y = let z : ◌≡◌ {A = ℕ} 0 1 = cc in absurd (omega arith)
    place false y = cc
broken_at (b ∷ bs) done f begun n p w {r} x =
    go (breaks f begun n b) refl (is_digit b) refl (λ v y. broken_at bs (done ++ b ∷ []) f true (with_digit n b) (suc p) v y)
    (λ v y. broken_at bs (done ++ b ∷ []) (after_field f) false 0 (suc p) v y) x
  where
    R : TextRead
    R = read_from f true (with_digit n b) (suc p) bs

    S : TextRead
    S = read_from (after_field f) false 0 (suc p) bs

    shifted : (q : ℕ) × (r ≡ text_broken q) × Broken (done ++ b ∷ [] ++ bs) q → (q : ℕ) × (r ≡ text_broken q) × Broken (done ++ b ∷ bs) q
    shifted a = (a.0, a.1, subst (λ (l : List ℕ). Broken l a.0) (append_snoc done b bs) a.2)

    go : (c : Bool) → breaks f begun n b ≡ c → (d : Bool) → is_digit b ≡ d
        → (Reached (done ++ b ∷ []) f true (with_digit n b) (suc p) → R.fault ≡ Err r
        → (q : ℕ) × (r ≡ text_broken q) × Broken (done ++ b ∷ [] ++ bs) q)
        → (Reached (done ++ b ∷ []) (after_field f) false 0 (suc p) → S.fault ≡ Err r
        → (q : ℕ) × (r ≡ text_broken q) × Broken (done ++ b ∷ [] ++ bs) q)
        → (cond c (broken p) (cond d R (number_then n S))).fault ≡ Err r → (q : ℕ) × (r ≡ text_broken q) × Broken (done ++ b ∷ bs) q
    go true k d e f₁ f₂ y = (
      p,
      (cc),
      stops w (b ∷ bs) x (λ rest lt a. let a' : Err (text_broken p) ≡ (Ok tt) = rw k at a in
          let z : ◌≡◌ {A = ℕ} 0 1 = cc in omega arith),
    )
    go false k true e f₁ f₂ y = shifted (f₁ (digit_more done f begun n p b w k e) y)
    go false k false e f₁ f₂ y = shifted (f₂ (number_more done f begun n p b w k e) y)

-- a fault of a text is 21 at the place where it is broken
pub read_broken : (text : List ℕ) {r : Refusal} → (read_text text).fault ≡ Err r → (q : ℕ) × (r ≡ text_broken q) × Broken text q
read_broken text e = broken_at text [] 0 false 0 0 start e
