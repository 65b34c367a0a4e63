-- Stage: buffers that hold an accepted sheet, and values that are its model's.
use Rattle.std.specs.Prelude.{◌≡◌, List, ℕ, ◌<◌, length, get_or}
use Rattle.paper.specs.Table1.{code}
use Rattle.paper.specs.Rules.{positive}
use Rattle.paper.specs.Definitions.{Interpretation, value, Smallest}
use Rattle.words.specs.Layout.{words_of, rules_in}
use Rattle.literals.specs.Literals.{Sofar}
use Rattle.sheetwords.specs.Sheets.{sheet_outcome}
use Rattle.sheetwords.specs.Sheets as sheet
use Rattle.buffers.specs.Padded.{padded}

-- the buffers hold an accepted sheet of n atoms and w words
pub record Holding (s : List ℕ) (wordRoom nameRoom n w : ℕ) (ws ns : List ℕ) : Type 0 where
  pub sofar : Sofar
  pub is : sheet_outcome s wordRoom nameRoom ≡ sheet.accepted sofar
  pub words_are : ws ≡ padded wordRoom (words_of sofar.records)
  pub names_are : ns ≡ padded nameRoom sofar.names
  pub atoms : n ≡ length sofar.names
  pub filled : w ≡ length (words_of sofar.records)

-- the first n values are those of the smallest well-supported model of the sheet's rules
pub record Valued (s : List ℕ) (wordRoom nameRoom n : ℕ) (values : List ℕ) : Type 0 where
  pub model : Interpretation
  pub smallest : (x : Sofar) → sheet_outcome s wordRoom nameRoom ≡ sheet.accepted x → Smallest (rules_in x.records) model
  pub codes : (a : ℕ) → a < n → get_or values a 0 ≡ code (value model (positive a))
