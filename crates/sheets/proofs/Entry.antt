-- The sheet entry, from what its parts ensure.
use mathlib.Core.Path.{◌≡◌, refl, sym, ap, ap₂, ◌∙◌, subst, subst₂}
use mathlib.Core.List.{List, []}
use Prim.Native.Nat.{ℕ, ◌≤◌}
use native.Mathlib.Nat.{zero-add}
use native.Mathlib.Omega.{arith}
use lib.ListN.{length, get_or, take}
use Rattle.refusal.specs.declared.Refusal.{Refusal}
use Rattle.paper.specs.Table1.{code}
use Rattle.paper.specs.Rules.{positive}
use Rattle.paper.specs.Definitions.{value, Smallest}
use Rattle.words.specs.Layout.{TableRecord, words_of, records_of, rules_in}
use Rattle.refusal.proofs.Laws.{refused≢accepted}
use Rattle.refusal.specs.Checks.{Checked}
use Rattle.evaluation.specs.Evaluation.{evaluation_fault, EvaluationAllows}
use Rattle.evaluation.proofs.Laws.{refused_is, evaluated_is}
use Rattle.literals.specs.Literals.{Sofar}
use Rattle.sheetwords.specs.Sheets.{Outcome, accepted, refused, sheet_outcome}
use Rattle.buffers.specs.Padded.{padded}
use Rattle.sheetwords.specs.Filling.{ReadInto}
use Rattle.literals.proofs.Growth.{in_front}
use Rattle.sheetwords.proofs.Turns.{accepted_once}
use Rattle.sheetwords.proofs.Laws.{sheet_within, sheet_table_accepted, sheet_table_records}
use Rattle.valuesheet.specs.ValueSheet.{lines_from, value_sheet}
use Rattle.valuesheet.specs.Fitting.{printing, text_after}
use Rattle.sheets.specs.SheetEntry.{sheet_of, counts, SheetAllows, SheetAnswer}
use Rattle.sheets.specs.Holding.{Holding, Valued}
use Rattle.values.proofs.Written.{written_at}
use Rattle.sheets.proofs.Values.{same_lines, no_fault, in_buffer, printed_whole, printed_nothing}
use Rattle.std.specs.Prelude.{Ok, Err, Result}
use Rattle.sheetwords.specs.declared.Filled.{Filled}

allows : (s : List ℕ) (wordRoom nameRoom : ℕ) (text : List ℕ) {a a' : SheetAnswer} {u u' m m' t t' : List ℕ}
    → a ≡ a' → u ≡ u' → m ≡ m' → t ≡ t'
    → SheetAllows s wordRoom nameRoom text a u m t → SheetAllows s wordRoom nameRoom text a' u' m' t'
allows s wordRoom nameRoom text {a} {a'} {u} {u'} {m} {m'} {t} {t'} e f g h r =
    subst (λ (y : List ℕ). SheetAllows s wordRoom nameRoom text a' u' m' y) h
    (subst (λ (y : List ℕ). SheetAllows s wordRoom nameRoom text a' u' y t) g
    (subst (λ (y : List ℕ). SheetAllows s wordRoom nameRoom text a' y m t) f
    (subst (λ (y : SheetAnswer). SheetAllows s wordRoom nameRoom text y u m t) e r)))

module _ (s : List ℕ) (wordRoom nameRoom n w : ℕ) (ws ns : List ℕ) (held : Holding s wordRoom nameRoom n w ws ns) where
  pub few_atoms : n ≤ 512
  few_atoms = omega (arith, held.atoms, (sheet_within s wordRoom nameRoom held.sofar held.is).at_most_512)

  pub names_inside : n ≤ length ns
  names_inside = omega (arith, held.atoms, in_buffer nameRoom held.sofar.names ns held.names_are)

  pub words_inside : w ≤ length ws
  words_inside = omega (arith, held.filled, in_buffer wordRoom (words_of held.sofar.records) ws held.words_are)

  names_taken : take n ns ≡ held.sofar.names
  names_taken = in_front n nameRoom held.sofar.names ns held.atoms held.names_are

  words_taken : take w ws ≡ words_of held.sofar.records
  words_taken = in_front w wordRoom (words_of held.sofar.records) ws held.filled held.words_are

  -- the bytes printed are the value sheet
  sheet_printed : (values : List ℕ) (v : Valued s wordRoom nameRoom n values)
      → value_sheet s (λ a. get_or values a 0) (take n ns) ≡ sheet_of s held.sofar v.model
  sheet_printed values v =
      ap (lines_from s (λ a. get_or values a 0) 0) names_taken
      ∙ same_lines s (λ a. get_or values a 0) (λ a. code (value v.model (positive a))) 0 held.sofar.names
      (λ b h. v.codes b (omega (arith, held.atoms, zero-add (length held.sofar.names))))

  module _ (values : List ℕ) (v : Valued s wordRoom nameRoom n values) (text text' : List ℕ) (p : Result ℕ Refusal)
      (answer : p ≡ printing (value_sheet s (λ a. get_or values a 0) (take n ns)) (length text))
      (after : text' ≡ text_after (value_sheet s (λ a. get_or values a 0) (take n ns)) text) where
    whole_answer : p ≡ printing (sheet_of s held.sofar v.model) (length text)
    whole_answer = answer ∙ ap (λ (out : List ℕ). printing out (length text)) (sheet_printed values v)

    whole_after : text' ≡ text_after (sheet_of s held.sofar v.model) text
    whole_after = after ∙ ap (λ (out : List ℕ). text_after out text) (sheet_printed values v)

    pub prints : (bytes : ℕ) → p ≡ Ok bytes
        → SheetAllows s wordRoom nameRoom text (Ok (record { atoms = n; words = w; bytes = bytes })) ws ns text'
    prints bytes e =
        let x = held.sofar in
        let I = v.model in
        let got = printed_whole (sheet_of s x I) text text' p whole_answer whole_after bytes e in
        let same : counts s x I ≡ Ok (record { atoms = n; words = w; bytes = bytes }) =
        cc (sym held.atoms, sym held.filled, sym got.1) in
        allows s wordRoom nameRoom text same (sym held.words_are) (sym held.names_are) (sym got.2)
        (SheetAllows.accepted {x = x} {I = I} held.is (v.smallest x held.is) got.0)

    pub prints_nothing : (r : Refusal) (ws' ns' : List ℕ) → p ≡ Err r → ws' ≡ padded wordRoom [] → ns' ≡ padded nameRoom []
        → SheetAllows s wordRoom nameRoom text (Err r) ws' ns' text'
    prints_nothing r ws' ns' e h h' =
        let x = held.sofar in
        let I = v.model in
        let got = printed_nothing (sheet_of s x I) text text' p whole_answer whole_after r e in
        allows s wordRoom nameRoom text (ap Err (sym got.1)) (sym h) (sym h') (sym got.2)
        (SheetAllows.does_not_fit {x = x} {I = I} held.is (v.smallest x held.is) got.0)

  -- evaluation takes the table, and its values are those of the smallest well-supported model of the sheet's rules
  takes_table : (room : ℕ) → 512 ≤ room → evaluation_fault n (take w ws) room ≡ Ok tt
  takes_table room h =
      ap₂ (λ (a : ℕ) (t : List ℕ). evaluation_fault a t room) held.atoms words_taken
      ∙ no_fault (length held.sofar.names) (words_of held.sofar.records) room
      (omega (arith, held.atoms, few_atoms)) (sheet_table_accepted s wordRoom nameRoom held.sofar held.is)

  pub never_refuses : (room room' : List ℕ) (ans : Checked) (r : Refusal) → 512 ≤ length room → EvaluationAllows n (take w ws) room ans room'
      → ans ≡ Err r → ⊥
  never_refuses room room' ans r h allowed e =
      refused≢accepted r (sym (refused_is n (take w ws) room room' ans r allowed e).0 ∙ takes_table (length room) h)

  pub valued : (room room' : List ℕ) (ans : Checked) → EvaluationAllows n (take w ws) room ans room' → ans ≡ Ok tt
      → Valued s wordRoom nameRoom n room'
  valued room room' ans allowed e =
      let got = (evaluated_is n (take w ws) room room' ans allowed e).1 in
      record {
        model = got.0;
        smallest = λ x f. subst (λ (Q : List TableRecord). Smallest (rules_in Q) got.0)
            (ap records_of words_taken ∙ sheet_table_records held.sofar
            ∙ ap (λ (y : Sofar). y.records) (accepted_once held.sofar x (sym held.is ∙ f)))
            got.1;
        codes = λ a h. ap (λ (t : List ℕ). get_or t a 0) got.2 ∙ written_at (λ b. value got.0 (positive b)) n room a h;
      }

-- reading into the buffers
read_is_not_refused : (f : Filled) (x : Refusal) → ◌≡◌ {A = Result Filled Refusal} (Ok f) (Err x) → ⊥
read_is_not_refused f x e = let z : ◌≡◌ {A = ℕ} 0 1 = cc in omega arith

held_by : (s : List ℕ) (wordRoom nameRoom : ℕ) (f : Filled) (ws ns : List ℕ) (o : Outcome) → sheet_outcome s wordRoom nameRoom ≡ o
    → ReadInto o wordRoom nameRoom (Ok f) ws ns → Holding s wordRoom nameRoom f.atoms f.words ws ns
held_by s wordRoom nameRoom f ws ns (accepted x) e into =
    let same : f ≡ record { atoms = length x.names; words = length (words_of x.records) } = cc into.answer in
    record {
      sofar = x;
      is = e;
      words_are = into.words_are;
      names_are = into.names_are;
      atoms = ap (λ (g : Filled). g.atoms) same;
      filled = ap (λ (g : Filled). g.words) same;
    }
held_by s wordRoom nameRoom f ws ns (refused r) e into = absurd (read_is_not_refused f r into.answer)

refused_by : (s : List ℕ) (wordRoom nameRoom : ℕ) (r : Refusal) (text ws ns : List ℕ) (o : Outcome) → sheet_outcome s wordRoom nameRoom ≡ o
    → ReadInto o wordRoom nameRoom (Err r) ws ns → SheetAllows s wordRoom nameRoom text (Err r) ws ns text
refused_by s wordRoom nameRoom r text ws ns (accepted x) e into = absurd (read_is_not_refused _ r (sym into.answer))
refused_by s wordRoom nameRoom r text ws ns (refused f) e into =
    let same : f ≡ r = cc into.answer in
    allows s wordRoom nameRoom text (ap Err same) (sym into.words_are) (sym into.names_are) refl (SheetAllows.refused {f = f} e)

-- what the entry's turns need of reading
module _ (s : List ℕ) (wordRoom nameRoom : ℕ) (filled : Result Filled Refusal) (ws ns : List ℕ)
    (into : ReadInto (sheet_outcome s wordRoom nameRoom) wordRoom nameRoom filled ws ns) where
  pub holds : (f : Filled) → filled ≡ Ok f → Holding s wordRoom nameRoom f.atoms f.words ws ns
  holds f e =
      held_by s wordRoom nameRoom f ws ns (sheet_outcome s wordRoom nameRoom) refl
      (subst (λ (f : Result Filled Refusal). ReadInto (sheet_outcome s wordRoom nameRoom) wordRoom nameRoom f ws ns) e into)

  pub refuses : (r : Refusal) (text : List ℕ) → filled ≡ Err r → SheetAllows s wordRoom nameRoom text (Err r) ws ns text
  refuses r text e =
      refused_by s wordRoom nameRoom r text ws ns (sheet_outcome s wordRoom nameRoom) refl
      (subst (λ (f : Result Filled Refusal). ReadInto (sheet_outcome s wordRoom nameRoom) wordRoom nameRoom f ws ns) e into)

  pub holds_there : (f : Filled) → filled ≡ Ok f → length ws ≡ wordRoom
      → length ns ≡ nameRoom → Holding s (length ws) (length ns) f.atoms f.words ws ns
  holds_there f e h h' = subst₂ (λ (x y : ℕ). Holding s x y f.atoms f.words ws ns) (sym h) (sym h') (holds f e)

-- the buffers have kept their lengths
pub allows_there : (s : List ℕ) (x x' y y' : ℕ) (text : List ℕ) (a : SheetAnswer) (ws ns text' : List ℕ) → x ≡ x' → y ≡ y'
    → SheetAllows s x y text a ws ns text' → SheetAllows s x' y' text a ws ns text'
allows_there s x x' y y' text a ws ns text' h h' r = subst₂ (λ (m k : ℕ). SheetAllows s m k text a ws ns text') h h' r
