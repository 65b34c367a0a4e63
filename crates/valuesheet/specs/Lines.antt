-- Believed: the lines of a text.
use Rattle.std.specs.Prelude.{List, [], ◌∷◌, cond, ℕ}
use Rattle.reader.specs.Sheet.{is_line_end}

-- lines with a byte more at the front of the first
unfoldable pub joined : ℕ → List (List ℕ) → List (List ℕ)
joined b [] = (b ∷ []) ∷ []
joined b (l ∷ ls) = (b ∷ l) ∷ ls

-- a text cut behind each byte 10; bytes behind the last of them are a line without its end
unfoldable pub lines : List ℕ → List (List ℕ)
lines [] = []
lines (b ∷ t) = cond (is_line_end b) ((b ∷ []) ∷ lines t) (joined b (lines t))
