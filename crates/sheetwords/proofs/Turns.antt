-- The turns of the loop that fills the buffers, and what it answers.
use mathlib.Core.Path.{◌≡◌, refl, sym, ap, ap₂, ◌∙◌, subst, subst₃}
use mathlib.Core.List.{List, []}
use mathlib.Core.Bool.{Bool, ◌&&◌, and-false}
use Prim.Native.Nat.{ℕ, ◌+◌, ◌-◌, ◌≤◌, ◌<◌}
use native.Mathlib.Omega.{arith}
use lib.Dec.{leb}
use borrow.Author.Tests.{le-leb, lt-leb}
use Rattle.refusal.specs.Numbers.{sheet_too_long, buffer_too_small}
use lib.ListN.{length}
use Rattle.refusal.specs.declared.Refusal.{Refusal}
use Rattle.refusal.specs.Checks.{Checked, demanding}
use Rattle.words.specs.Layout.{words_of}
use Rattle.reader.specs.declared.SheetLiteral.{SheetLiteral}
use Rattle.reader.specs.declared.Next.{Next}
use Rattle.reader.specs.declared.Reading.{Reading}
use Rattle.reader.specs.declared.Reading.TheVariants.{End, Refused as ReadRefused, Literal}
use Rattle.reader.specs.Readings.{reading_at, place_after, next_at}
use Rattle.reader.proofs.Laws.{literal_read, place_grows, place_inside}
use Rattle.literals.specs.declared.Counts.{Counts}
use Rattle.literals.specs.Literals.{Sofar, nothing}
use Rattle.sheetwords.specs.Sheets.{Outcome, accepted, refused, sheet_from, sheet_outcome}
use Rattle.buffers.specs.Padded.{padded}
use Rattle.literals.specs.Putting.{fault_in, atom_in, code_in, Put, Took}
use Rattle.sheetwords.specs.Filling.{words_left_by, names_left, filled_by, FilledBy, ReadInto}
use Rattle.sheetwords.proofs.Filling.{Filling, at_end_lem, at_refusal, at_fault, at_literal}
use Rattle.std.specs.Prelude.{Ok, Err, Result}
use Rattle.sheetwords.specs.declared.Filled.{Filled}

on_is_not_off : (k : Counts) (x : Refusal) → Ok k ≡ Err x → ⊥
on_is_not_off k x e = let z : ◌≡◌ {A = ℕ} 0 1 = cc in omega arith

pub accepted_is_not_refused : (sofar : Sofar) (x : Refusal) → accepted sofar ≡ refused x → ⊥
accepted_is_not_refused sofar x e = let z : ◌≡◌ {A = ℕ} 0 1 = cc in omega arith

pub accepted_once : (a b : Sofar) → accepted a ≡ accepted b → a ≡ b
accepted_once a b e = cc

-- what a turn has read
pub read_is : (s : List ℕ) (p : ℕ) (next : Next) (r : Reading) → next ≡ next_at s p → next.reading ≡ r → reading_at s p ≡ r
unfolding next_at
read_is s p next r e is = sym (ap (λ (x : Next). x.reading) e) ∙ is

place_is : (s : List ℕ) (p : ℕ) (next : Next) (r : Reading) → next ≡ next_at s p → next.reading ≡ r → next.place ≡ place_after r p
unfolding next_at
place_is s p next r e is = ap (λ (x : Next). x.place) e ∙ ap (λ (x : Reading). place_after x p) (sym (ap (λ (x : Next). x.reading) e) ∙ is)

-- the name of a literal that was read lies in the sheet
pub name_fits : (s : List ℕ) (p : ℕ) (next : Next) (l : SheetLiteral) → next ≡ next_at s p
    → next.reading ≡ Literal l → (l.start ≤ 65536) × (l.len ≤ 24)
name_fits s p next l e is =
    let known = literal_read s p l (read_is s p next (Literal l) e is) in
    (omega (arith, known.sheet_fits, known.named.inside), known.named.at_most_24)

module _ (s : List ℕ) (whole : Outcome) (p : ℕ) (k : Counts) (ws ns heads : List ℕ)
    (inv : Filling s whole p k ws ns heads) (next : Next) (e : next ≡ next_at s p) where
  pub ends : next.reading ≡ End → FilledBy whole (Ok (record { atoms = k.atoms; words = k.words })) ws ns
  ends is =
      let done = at_end_lem s whole p k ws ns heads inv (read_is s p next End e is) in
      let same : (x : Sofar) → whole ≡ accepted x → inv.sofar ≡ x = λ x h. accepted_once inv.sofar x (sym done ∙ h) in
      record {
        answer = ap₂ (λ (n w : ℕ). Ok (record { atoms = n; words = w })) inv.kept.atoms inv.kept.words ∙ ap filled_by (sym done);
        words_are = λ x h. subst (λ (y : Sofar). ws ≡ padded (length ws) (words_of y.records)) (same x h) inv.kept.in_words;
        names_are = λ x h. subst (λ (y : Sofar). ns ≡ padded (length ns) y.names) (same x h) inv.kept.in_names;
      }

  pub nothing_filled : (x : Refusal) (ws' ns' : List ℕ) → whole ≡ refused x → FilledBy whole (Err x) ws' ns'
  nothing_filled x ws' ns' done = record {
    answer = ap filled_by (sym done);
    words_are = λ y h. absurd (accepted_is_not_refused y x (sym h ∙ done));
    names_are = λ y h. absurd (accepted_is_not_refused y x (sym h ∙ done));
  }

  pub stops : (x : Refusal) → next.reading ≡ ReadRefused x → FilledBy whole (Err x) ws ns
  stops x is = nothing_filled x ws ns (at_refusal s whole p k ws ns heads inv x (read_is s p next (ReadRefused x) e is))

  module _ (l : SheetLiteral) (is : next.reading ≡ Literal l) (r : Result Counts Refusal)
      (ws' ns' heads' : List ℕ) (took : Took s p l k ws ns heads r ws' ns' heads') where
    pub faults : (x : Refusal) → r ≡ Err x → FilledBy whole (Err x) ws' ns'
    faults x off = by (fault_in s k ws ns heads p l) refl
      where
        by : (f : Checked) → fault_in s k ws ns heads p l ≡ f → FilledBy whole (Err x) ws' ns'
        by (Ok tt) q = let on = took.faultless q in absurd (on_is_not_off on.0 x (sym on.1 ∙ off))
        by (Err y) q =
            let same : Err y ≡ Err x = sym (took.faulty y q).0 ∙ off in
            nothing_filled x ws' ns'
            (at_fault s whole p k ws ns heads inv l (read_is s p next (Literal l) e is) y q ∙ (let z : y ≡ x = cc in ap refused z))

    pub goes_on : (k' : Counts) → r ≡ Ok k' → Filling s whole next.place k' ws' ns' heads'
    goes_on k' on = by (fault_in s k ws ns heads p l) refl
      where
        by : (f : Checked) → fault_in s k ws ns heads p l ≡ f → Filling s whole next.place k' ws' ns' heads'
        by (Err y) q = absurd (on_is_not_off k' y (sym on ∙ (took.faulty y q).0))
        by (Ok tt) q =
            let got = took.faultless q in
            let same : got.0 ≡ k' = (let z : Ok got.0 ≡ Ok k' = sym got.1 ∙ on in cc) in
            subst (λ (x : ℕ). Filling s whole x k' ws' ns' heads') (sym (place_is s p next (Literal l) e is))
            (at_literal s whole p k ws ns heads inv l (read_is s p next (Literal l) e is) k' ws' ns' heads' q
            (subst (λ (x : Counts). Put (atom_in s k ns l) (code_in s k ns l) l k ws ns heads x ws' ns' heads') same got.2))

    pub falls : length s - next.place < length s - p
    falls =
        let lit = read_is s p next (Literal l) e is in
        omega (arith, place_is s p next (Literal l) e is, place_grows s p l lit, place_inside s p l lit)

-- 8 and 9
refused_into : (x : Refusal) (room room' : ℕ) (ws ns : List ℕ) (o : Outcome)
    → o ≡ refused x → ws ≡ padded room [] → ns ≡ padded room' [] → ReadInto o room room' (Err x) ws ns
refused_into x room room' ws ns o e h h' = record {
  answer = ap filled_by (sym e);
  words_are = h ∙ ap (λ (y : Outcome). padded room (words_left_by y)) (sym e);
  names_are = h' ∙ ap (λ (y : Outcome). padded room' (names_left y)) (sym e);
}

module _ (s : List ℕ) (room room' : ℕ) (ws ns : List ℕ) where
  pub long_sheet : 65536 < length s → ws ≡ padded room [] → ns ≡ padded room' []
      → ReadInto (sheet_outcome s room room') room room' (Err sheet_too_long) ws ns
  unfolding sheet_outcome
  long_sheet h = refused_into sheet_too_long room room' ws ns _
      (ap (λ (b : Bool). demanding refused b sheet_too_long
      (demanding refused (leb 8192 room && leb 512 room') buffer_too_small (sheet_from (length s + 1) s 0 nothing))) (lt-leb (length s) 65536 h))

  pub short_words : length s ≤ 65536 → room < 8192 → ws ≡ padded room [] → ns ≡ padded room' []
      → ReadInto (sheet_outcome s room room') room room' (Err buffer_too_small) ws ns
  unfolding sheet_outcome
  short_words h h' = refused_into buffer_too_small room room' ws ns _
      (ap₂ (λ (b b' : Bool). demanding refused b sheet_too_long
      (demanding refused (b' && leb 512 room') buffer_too_small (sheet_from (length s + 1) s 0 nothing)))
      (le-leb (length s) 65536 h) (lt-leb 8192 room h'))

  pub short_names : length s ≤ 65536 → room' < 512 → ws ≡ padded room [] → ns ≡ padded room' []
      → ReadInto (sheet_outcome s room room') room room' (Err buffer_too_small) ws ns
  unfolding sheet_outcome
  short_names h h' = refused_into buffer_too_small room room' ws ns _
      (ap₂ (λ (b b' : Bool). demanding refused b sheet_too_long (demanding refused b' buffer_too_small (sheet_from (length s + 1) s 0 nothing)))
      (le-leb (length s) 65536 h)
      (ap (λ (b : Bool). leb 8192 room && b) (lt-leb 512 room' h') ∙ and-false (leb 8192 room)))

  pub read_on : (r : Result Filled Refusal) (n n' : ℕ) → n ≡ room → n' ≡ room' → length s ≤ 65536 → 8192 ≤ n → 512 ≤ n'
      → ReadInto (sheet_from (length s + 1) s 0 nothing) n n' r ws ns → ReadInto (sheet_outcome s room room') room room' r ws ns
  unfolding sheet_outcome
  read_on r n n' e e' h h' h'' into =
      subst₃ (λ (o : Outcome) (x y : ℕ). ReadInto o x y r ws ns)
      (sym (ap₂ (λ (b b' : Bool). demanding refused b sheet_too_long (demanding refused b' buffer_too_small (sheet_from (length s + 1) s 0 nothing)))
      (le-leb (length s) 65536 h)
      (ap₂ (λ (b b' : Bool). b && b') (le-leb 8192 room (omega arith)) (le-leb 512 room' (omega arith))))) e e' into
