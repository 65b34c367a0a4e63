-- Believed: a word goes as two bytes, low byte first; a lone last byte is a record cut short.
use Rattle.std.specs.Prelude.{Bool, not, List, [], ◌∷◌, ℕ, ◌+◌, ◌*◌, ◌%◌, eqb, length, Ok}
use Rattle.refusal.specs.Numbers.{cut_short}
use Rattle.refusal.specs.Checks.{Checked, asking, or_else}

-- the whole words of a row of bytes; a lone last byte is none
unfoldable pub words_in : List ℕ → List ℕ
words_in [] = []
words_in (low ∷ []) = []
words_in (low ∷ high ∷ bytes) = (low + 256 * high) ∷ words_in bytes

-- is there a lone last byte
abbrev pub lone_byte : List ℕ → Bool
lone_byte bytes = eqb (length bytes % 2) 1

-- the first fault of so many whole words, then a lone last byte: 4, at the whole words' number
abbrev pub then_lone_byte : Checked → ℕ → Bool → Checked
then_lone_byte fault words lone = or_else fault (asking (not lone) (cut_short words) (Ok tt))
