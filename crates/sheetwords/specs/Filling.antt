-- Stage: what reading a sheet leaves in the buffers.
use Rattle.std.specs.Prelude.{List, [], ◌≡◌, ℕ, length, Ok, Err, Result}
use Rattle.buffers.specs.Padded.{padded}
use Rattle.words.specs.Layout.{words_of}
use Rattle.literals.specs.Literals.{Sofar}
use Rattle.sheetwords.specs.Sheets.{Outcome, accepted, refused}
use Rattle.refusal.specs.declared.Refusal.{Refusal}
use Rattle.sheetwords.specs.declared.Filled.{Filled}

-- what an outcome leaves in the buffers; a refused sheet leaves nothing
abbrev pub words_left_by : Outcome → List ℕ
words_left_by (accepted sofar) = words_of sofar.records
words_left_by (refused r) = []

abbrev pub names_left : Outcome → List ℕ
names_left (accepted sofar) = sofar.names
names_left (refused r) = []

-- the answer: N and the words filled, or the refusal
abbrev pub filled_by : Outcome → Result Filled Refusal
filled_by (accepted sofar) = Ok (record { atoms = length sofar.names; words = length (words_of sofar.records) })
filled_by (refused r) = Err r

-- what filling the buffers leaves: the answer, and where the sheet is accepted its words and names
pub record FilledBy (o : Outcome) (r : Result Filled Refusal) (ws ns : List ℕ) : Type 0 where
  pub answer : r ≡ filled_by o
  pub words_are : (sofar : Sofar) → o ≡ accepted sofar → ws ≡ padded (length ws) (words_of sofar.records)
  pub names_are : (sofar : Sofar) → o ≡ accepted sofar → ns ≡ padded (length ns) sofar.names

-- a sheet has been read into buffers of so many entries: the answer, every word and every name entry
pub record ReadInto (o : Outcome) (wordRoom nameRoom : ℕ) (r : Result Filled Refusal) (ws ns : List ℕ) : Type 0 where
  pub answer : r ≡ filled_by o
  pub words_are : ws ≡ padded wordRoom (words_left_by o)
  pub names_are : ns ≡ padded nameRoom (names_left o)
