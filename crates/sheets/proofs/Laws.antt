-- Two outcomes that the sheet entry allows are equal, and what an accepted sheet leaves.
use mathlib.Core.Path.{◌≡◌, refl, sym, ap, ap₂, ◌∙◌, subst, subst₂}
use mathlib.Core.List.{List, ◌++◌}
use Prim.Native.Nat.{ℕ, ◌≤◌}
use native.Mathlib.Omega.{arith}
use lib.ListN.{length, take, drop, length-append}
use Rattle.refusal.specs.Numbers.{text_room_too_small}
use Rattle.paper.specs.Rules.{OneRulePerHead}
use Rattle.paper.specs.Definitions.{Interpretation, Smallest}
use Rattle.paper.proofs.Smallest.{smallest_unique}
use Rattle.words.specs.Check.{AcceptedTable}
use Rattle.words.specs.Layout.{TableRecord, words_of, records_of, rules_in}
use Rattle.words.proofs.Laws.{accepted_one_rule}
use Rattle.literals.specs.Literals.{Sofar}
use Rattle.literals.proofs.Growth.{LineByLine, in_front}
use Rattle.sheetwords.specs.Sheets.{accepted, refused, sheet_outcome}
use Rattle.buffers.specs.Padded.{padded}
use Rattle.sheetwords.proofs.Turns.{accepted_is_not_refused, accepted_once}
use Rattle.sheetwords.proofs.Laws.{sheet_table_accepted, sheet_lines, sheet_table_records}
use Rattle.sheets.specs.declared.SheetCounts.{SheetCounts}
use Rattle.sheets.specs.SheetEntry.{sheet_of, counts, SheetAllows, SheetAnswer}
use Rattle.std.specs.Prelude.{Ok, Err}

-- an accepted sheet has at most one rule per head
pub sheet_one_rule : (s : List ℕ) (wordRoom nameRoom : ℕ) (x : Sofar) → sheet_outcome s wordRoom nameRoom ≡ accepted x
    → OneRulePerHead (rules_in x.records)
sheet_one_rule s wordRoom nameRoom x e =
    subst (λ (Q : List TableRecord). OneRulePerHead (rules_in Q)) (sheet_table_records x)
    (accepted_one_rule (length x.names) (words_of x.records) (sheet_table_accepted s wordRoom nameRoom x e))

-- the words, names and value sheet of an accepted sheet
same_sheet : (s : List ℕ) (wordRoom nameRoom : ℕ) (x y : Sofar) (I J : Interpretation) → sheet_outcome s wordRoom nameRoom ≡ accepted x
    → sheet_outcome s wordRoom nameRoom ≡ accepted y → Smallest (rules_in x.records) I → Smallest (rules_in y.records) J → (x ≡ y) × (I ≡ J)
same_sheet s wordRoom nameRoom x y I J e f a b =
    let same = accepted_once x y (sym e ∙ f) in
    (same, smallest_unique (rules_in x.records) I J a (subst (λ (z : Sofar). Smallest (rules_in z.records) J) (sym same) b))

abbrev Equal : SheetAnswer → SheetAnswer → List ℕ → List ℕ → List ℕ → List ℕ → List ℕ → List ℕ → Type 0
Equal a b ws ws' ns ns' text text' = (a ≡ b) × (ws ≡ ws') × (ns ≡ ns') × (text ≡ text')

module _ (s : List ℕ) (wordRoom nameRoom : ℕ) (text : List ℕ) where
  pub sheet_determined : {a b : SheetAnswer} {ws ws' ns ns' t t' : List ℕ} → SheetAllows s wordRoom nameRoom text a ws ns t
      → SheetAllows s wordRoom nameRoom text b ws' ns' t' → Equal a b ws ws' ns ns' t t'
  sheet_determined (SheetAllows.refused {f} e) (SheetAllows.refused {f = g} e') =
      let same : f ≡ g = (let z : refused f ≡ refused g = sym e ∙ e' in cc) in (ap Err same, refl, refl, refl)
  sheet_determined (SheetAllows.refused {f} e) (SheetAllows.does_not_fit {x} e' i h) = absurd (accepted_is_not_refused x f (sym e' ∙ e))
  sheet_determined (SheetAllows.refused {f} e) (SheetAllows.accepted {x} e' i h) = absurd (accepted_is_not_refused x f (sym e' ∙ e))
  sheet_determined (SheetAllows.does_not_fit {x} {I} e i h) (SheetAllows.refused {f} e') = absurd (accepted_is_not_refused x f (sym e ∙ e'))
  sheet_determined (SheetAllows.does_not_fit {x} {I} e i h) (SheetAllows.does_not_fit {x = y} {I = J} e' j h') =
      let same = same_sheet s wordRoom nameRoom x y I J e e' i j in
      (ap₂ (λ (z : Sofar) (K : Interpretation). Err (text_room_too_small (length (sheet_of s z K)))) same.0 same.1, refl, refl, refl)
  sheet_determined (SheetAllows.does_not_fit {x} {I} e i h) (SheetAllows.accepted {x = y} {I = J} e' j h') =
      let same = same_sheet s wordRoom nameRoom x y I J e e' i j in
      absurd (omega (arith, h, h', ap₂ (λ (z : Sofar) (K : Interpretation). length (sheet_of s z K)) same.0 same.1))
  sheet_determined (SheetAllows.accepted {x} {I} e i h) (SheetAllows.refused {f} e') = absurd (accepted_is_not_refused x f (sym e ∙ e'))
  sheet_determined (SheetAllows.accepted {x} {I} e i h) (SheetAllows.does_not_fit {x = y} {I = J} e' j h') =
      let same = same_sheet s wordRoom nameRoom x y I J e e' i j in
      absurd (omega (arith, h, h', ap₂ (λ (z : Sofar) (K : Interpretation). length (sheet_of s z K)) same.0 same.1))
  sheet_determined (SheetAllows.accepted {x} {I} e i h) (SheetAllows.accepted {x = y} {I = J} e' j h') =
      let same = same_sheet s wordRoom nameRoom x y I J e e' i j in (
        ap₂ (λ (z : Sofar) (K : Interpretation). counts s z K) same.0 same.1,
        ap (λ (z : Sofar). padded wordRoom (words_of z.records)) same.0,
        ap (λ (z : Sofar). padded nameRoom z.names) same.0,
        ap₂ (λ (z : Sofar) (K : Interpretation). sheet_of s z K ++ drop (length (sheet_of s z K)) text) same.0 same.1,
      )

-- what an accepted sheet leaves: its counts, its words and names, and its value sheet at the front of the text
pub record Leaves (s : List ℕ) (wordRoom nameRoom : ℕ) (c : SheetCounts) (ws ns text : List ℕ) : Type 0 where
  pub sofar : Sofar
  pub model : Interpretation
  pub read : sheet_outcome s wordRoom nameRoom ≡ accepted sofar
  pub smallest : Smallest (rules_in sofar.records) model
  pub atoms : length sofar.names ≡ c.atoms
  pub words : length (words_of sofar.records) ≡ c.words
  pub bytes : length (sheet_of s sofar model) ≡ c.bytes
  pub words_are : ws ≡ padded wordRoom (words_of sofar.records)
  pub names_are : ns ≡ padded nameRoom sofar.names
  pub rest : List ℕ
  pub text_is : text ≡ sheet_of s sofar model ++ rest

pub accepted_leaves : (s : List ℕ) (wordRoom nameRoom : ℕ) (text : List ℕ) {a : SheetAnswer} {ws ns text' : List ℕ}
    → SheetAllows s wordRoom nameRoom text a ws ns text'
    → (c : SheetCounts) → a ≡ Ok c → Leaves s wordRoom nameRoom c ws ns text'
accepted_leaves s wordRoom nameRoom text (SheetAllows.refused e) c same = absurd (let z : ◌≡◌ {A = ℕ} 0 1 = cc in omega arith)
accepted_leaves s wordRoom nameRoom text (SheetAllows.does_not_fit e i h) c same = absurd (let z : ◌≡◌ {A = ℕ} 0 1 = cc in omega arith)
accepted_leaves s wordRoom nameRoom text (SheetAllows.accepted {x} {I} e i h) c same =
    let atoms : length x.names ≡ c.atoms = cc in
    let words : length (words_of x.records) ≡ c.words = cc in
    let bytes : length (sheet_of s x I) ≡ c.bytes = cc in
    record {
      sofar = x;
      model = I;
      read = e;
      smallest = i;
      atoms = atoms;
      words = words;
      bytes = bytes;
      words_are = refl;
      names_are = refl;
      rest = drop (length (sheet_of s x I)) text;
      text_is = refl;
    }

module _ (s : List ℕ) (wordRoom nameRoom : ℕ) (c : SheetCounts) (ws ns text : List ℕ) (left : Leaves s wordRoom nameRoom c ws ns text) where
  -- the value sheet lies within the text room
  pub accepted_fits : c.bytes ≤ length text
  accepted_fits = omega (arith, left.bytes, ap length left.text_is, length-append (sheet_of s left.sofar left.model) left.rest)

  words_left : take c.words ws ≡ words_of left.sofar.records
  words_left = in_front c.words wordRoom (words_of left.sofar.records) ws (sym left.words) left.words_are

  -- its records stand in lines 1, 2, 3, ..
  pub lines_left : LineByLine (records_of (take c.words ws))
  lines_left =
      subst LineByLine (sym (ap records_of words_left ∙ sheet_table_records left.sofar)) (sheet_lines s wordRoom nameRoom left.sofar left.read)

  -- the words are an accepted table for the N answered, with the sheet's records
  pub leaves_a_table : (x : Sofar) → sheet_outcome s wordRoom nameRoom ≡ accepted x
      → AcceptedTable c.atoms (take c.words ws) × (records_of (take c.words ws) ≡ x.records)
  leaves_a_table x read = (
    subst₂ (λ (n : ℕ) (t : List ℕ). AcceptedTable n t) left.atoms (sym words_left)
        (sheet_table_accepted s wordRoom nameRoom left.sofar left.read),
    ap records_of words_left ∙ sheet_table_records left.sofar
        ∙ ap (λ (y : Sofar). y.records) (accepted_once left.sofar x (sym left.read ∙ read)),
  )
