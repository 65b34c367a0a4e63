-- Believed: the sheet entry: its answer, and every word, name entry and byte afterwards.
use Rattle.std.specs.Prelude.{◌≡◌, List, [], ◌++◌, ℕ, ◌≤◌, ◌<◌, length, drop, Ok, Err, Result}
use Rattle.refusal.specs.declared.Refusal.{Refusal}
use Rattle.refusal.specs.Numbers.{text_room_too_small}
use Rattle.paper.specs.Table1.{code}
use Rattle.paper.specs.Rules.{positive}
use Rattle.paper.specs.Definitions.{Interpretation, value, Smallest}
use Rattle.words.specs.Layout.{words_of, rules_in}
use Rattle.literals.specs.Literals.{Sofar}
use Rattle.sheetwords.specs.Sheets.{sheet_outcome}
use Rattle.sheetwords.specs.Sheets as sheet
use Rattle.buffers.specs.Padded.{padded}
use Rattle.valuesheet.specs.ValueSheet.{value_sheet}
use Rattle.sheets.specs.declared.SheetCounts.{SheetCounts}

-- the value sheet of what a sheet has given, by a model
abbrev pub sheet_of : List ℕ → Sofar → Interpretation → List ℕ
sheet_of s x I = value_sheet s (λ a. code (value I (positive a))) x.names

-- what the sheet entry answers
abbrev pub SheetAnswer : Type 0
SheetAnswer = Result SheetCounts Refusal

-- N, the words filled and the value sheet's length
abbrev pub counts : List ℕ → Sofar → Interpretation → SheetAnswer
counts s x I = Ok (record { atoms = length x.names; words = length (words_of x.records); bytes = length (sheet_of s x I) })

-- a sheet, the lengths of its word and name buffers, and its text room: the answer, and the three afterwards
pub data SheetAllows (s : List ℕ) (wordRoom nameRoom : ℕ) (text : List ℕ) : SheetAnswer → List ℕ → List ℕ → List ℕ → Type 0 where
  refused : {f : Refusal} → sheet_outcome s wordRoom nameRoom ≡ sheet.refused f
      → SheetAllows s wordRoom nameRoom text (Err f) (padded wordRoom []) (padded nameRoom []) text
  does_not_fit : {x : Sofar} {I : Interpretation} → sheet_outcome s wordRoom nameRoom ≡ sheet.accepted x → Smallest (rules_in x.records) I
      → length text < length (sheet_of s x I)
      → SheetAllows s wordRoom nameRoom text (Err (text_room_too_small (length (sheet_of s x I)))) (padded wordRoom []) (padded nameRoom []) text
  accepted : {x : Sofar} {I : Interpretation} → sheet_outcome s wordRoom nameRoom ≡ sheet.accepted x → Smallest (rules_in x.records) I
      → length (sheet_of s x I) ≤ length text
      → SheetAllows s wordRoom nameRoom text (counts s x I) (padded wordRoom (words_of x.records)) (padded nameRoom x.names)
      (sheet_of s x I ++ drop (length (sheet_of s x I)) text)
