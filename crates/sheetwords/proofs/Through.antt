-- What holds before the first literal of a sheet and is kept by each literal without a fault holds of what an accepted sheet gives.
use mathlib.Core.Path.{◌≡◌, refl, sym, ap, ◌∙◌, subst}
use mathlib.Core.List.{List}
use mathlib.Core.Bool.{Bool, true, false, ◌&&◌}
use Prim.Native.Nat.{ℕ, zero, suc, ◌+◌, ◌-◌, ◌≤◌, ◌<◌}
use native.Mathlib.Numerals.{add-one}
use native.Mathlib.Omega.{arith}
use lib.Dec.{leb, ltb}
use lib.ListN.{length}
use borrow.Author.Tests.{ltb-true, ltb-false}
use Rattle.refusal.specs.declared.Refusal.{Refusal}
use Rattle.refusal.specs.Checks.{Checked, demanding}
use Rattle.refusal.proofs.Laws.{demanding_met}
use Rattle.reader.specs.declared.SheetLiteral.{SheetLiteral}
use Rattle.reader.specs.declared.Reading.{Reading}
use Rattle.reader.specs.declared.Reading.TheVariants.{End, Refused as ReadRefused, Literal}
use Rattle.reader.specs.Readings.{reading_at, place_after, next_at, NoLiteral, reached}
use Rattle.reader.proofs.Laws.{place_grows, place_inside, reached_on, reached_stays}
use Rattle.literals.specs.Literals.{Sofar, nothing, after, literal_fault}
use Rattle.sheetwords.specs.Sheets.{Outcome, accepted, refused, unless, by_reading, sheet_from, sheet_outcome}
use Rattle.sheetwords.proofs.Turns.{accepted_is_not_refused, accepted_once}
use Rattle.std.specs.Prelude.{Ok, Err}

unless_accepted : (f : Checked) (o : Outcome) (x : Sofar) → unless f o ≡ accepted x → (f ≡ Ok tt) × (o ≡ accepted x)
unless_accepted (Ok tt) o x e = (refl, e)
unless_accepted (Err r) o x e = absurd (accepted_is_not_refused x r (sym e))

pub demanding_accepted : (b : Bool) (r : Refusal) (o : Outcome) (x : Sofar) → demanding refused b r o ≡ accepted x → (b ≡ true) × (o ≡ accepted x)
demanding_accepted b r o x e = demanding_met refused b r o (accepted x) (λ q. accepted_is_not_refused x r (sym q)) e

-- the place after a literal is the next that the reader reaches
pub place_reached : (s : List ℕ) (count : ℕ) (l : SheetLiteral) → reading_at s (reached s 0 count) ≡ Literal l
    → place_after (Literal l) (reached s 0 count) ≡ reached s 0 (suc count)
unfolding next_at
place_reached s count l is =
    sym (ap (reached s 0) (sym (add-one count)) ∙ reached_on s count 1 0 ∙ ap (λ (r : Reading). place_after r (reached s 0 count)) is)

-- where the reader has ended after so many literals there is no other
pub literal_before : (s : List ℕ) (count : ℕ) → reading_at s (reached s 0 count) ≡ End
    → (i : ℕ) (l : SheetLiteral) → reading_at s (reached s 0 i) ≡ Literal l → i < count
literal_before s count end i l e = by (ltb i count) refl
  where
    by : (b : Bool) → ltb i count ≡ b → i < count
    by true q = ltb-true i count q
    by false q =
        let past : i ≡ count + (i - count) = omega (arith, ltb-false i count q) in
        let ended = subst NoLiteral (sym end) tt in
        let still = ap (reached s 0) past ∙ reached_on s count (i - count) 0 ∙ reached_stays s (i - count) (reached s 0 count) ended in
        absurd (subst NoLiteral (ap (reading_at s) (sym still) ∙ e) ended)

module _ (s : List ℕ) (P : ℕ → Sofar → Type 0)
    (keeps : (count : ℕ) (sofar : Sofar) (l : SheetLiteral) → reading_at s (reached s 0 count) ≡ Literal l
    → literal_fault s (reached s 0 count) sofar l ≡ Ok tt → P count sofar → P (suc count) (after s sofar l)) (x : Sofar) where
  -- the reader has ended, after so many literals
  abbrev pub Ended : Type 0
  Ended = (count : ℕ) × (reading_at s (reached s 0 count) ≡ End) × P count x

  step : (n count : ℕ) (sofar : Sofar)
      → ((y : Sofar) → reached s 0 (suc count) ≤ length s → length s < reached s 0 (suc count) + n → P (suc count) y
      → sheet_from n s (reached s 0 (suc count)) y ≡ accepted x → Ended)
      → (r : Reading) → reading_at s (reached s 0 count) ≡ r → length s < reached s 0 count + suc n → P count sofar
      → by_reading s (reached s 0 count) sofar r (sheet_from n s (place_after r (reached s 0 count))) ≡ accepted x → Ended
  step n count sofar onward End is enough holds e = (count, is, subst (P count) (accepted_once sofar x e) holds)
  step n count sofar onward (ReadRefused r) is enough holds e = absurd (accepted_is_not_refused x r (sym e))
  step n count sofar onward (Literal l) is enough holds e =
      let p = reached s 0 count in
      let next = place_reached s count l is in
      let both = unless_accepted (literal_fault s p sofar l) (sheet_from n s (place_after (Literal l) p) (after s sofar l)) x e in
      onward (after s sofar l) (subst (λ (q : ℕ). q ≤ length s) next (place_inside s p l is)) (omega (arith, place_grows s p l is, next))
      (keeps count sofar l is both.0 holds) (subst (λ (q : ℕ). sheet_from n s q (after s sofar l) ≡ accepted x) next both.1)

  from : (n count : ℕ) (sofar : Sofar) → reached s 0 count ≤ length s → length s < reached s 0 count + n
      → P count sofar → sheet_from n s (reached s 0 count) sofar ≡ accepted x → Ended
  unfolding sheet_from
  from zero count sofar inside enough holds e = absurd (omega arith)
  from (suc n) count sofar inside enough holds e =
      step n count sofar (λ y. from n (suc count) y) (reading_at s (reached s 0 count)) refl enough holds e

  pub at_the_end : (wordRoom nameRoom : ℕ) → P 0 nothing → sheet_outcome s wordRoom nameRoom ≡ accepted x → Ended
  unfolding sheet_outcome
  at_the_end wordRoom nameRoom starts e =
      from (length s + 1) 0 nothing (omega arith) (omega arith) starts
      (demanding_accepted (leb 8192 wordRoom && leb 512 nameRoom) _ _ x (demanding_accepted (leb (length s) 65536) _ _ x e).1).1
