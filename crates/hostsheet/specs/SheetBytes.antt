-- Believed: the host's sheet entry, over bytes.
use Rattle.std.specs.Prelude.{List, [], ◌∷◌, ◌++◌, ℕ, ◌*◌, ◌/◌, ◌%◌, length, drop, Ok, Err}
use Rattle.sheets.specs.SheetEntry.{SheetAllows, SheetAnswer}
use Rattle.host.specs.Evaluation.{packed}

-- a word goes as two bytes, low byte first
unfoldable pub word_bytes : List ℕ → List ℕ
word_bytes [] = []
word_bytes (w ∷ ws) = (w % 256) ∷ (w / 256) ∷ word_bytes ws

-- a name entry goes as four, low byte first
unfoldable pub name_bytes : List ℕ → List ℕ
name_bytes [] = []
name_bytes (e ∷ es) = (e % 256) ∷ (e / 256 % 256) ∷ (e / 65536 % 256) ∷ (e / 16777216) ∷ name_bytes es

-- the whole entries of the lent bytes are written, the surplus bytes after them are untouched
abbrev pub words_over : List ℕ → List ℕ → List ℕ
words_over ws bytes = word_bytes ws ++ drop (2 * (length bytes / 2)) bytes

abbrev pub names_over : List ℕ → List ℕ → List ℕ
names_over ns bytes = name_bytes ns ++ drop (4 * (length bytes / 4)) bytes

-- the value sheet's length, or 2^32 times the number, plus the place
abbrev pub packed_answer : SheetAnswer → ℕ
packed_answer (Ok c) = c.bytes
packed_answer (Err f) = packed f

-- the answer, and every byte of the three buffers afterwards
pub data HostSheet (s words names text : List ℕ) : ℕ → List ℕ → List ℕ → List ℕ → Type 0 where
  answered : {r : SheetAnswer} {ws ns text' : List ℕ} → SheetAllows s (length words / 2) (length names / 4) text r ws ns text'
      → HostSheet s words names text (packed_answer r) (words_over ws words) (names_over ns names) text'
