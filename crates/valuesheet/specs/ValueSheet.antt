-- Believed: the value sheet.
use Rattle.std.specs.Prelude.{List, [], ◌∷◌, ◌++◌, ℕ, zero, suc}
use Rattle.names.specs.Names.{name_of}

-- one letter f, u, i or t, by truth code
unfoldable pub letter_of : ℕ → ℕ
letter_of zero = 102
letter_of (suc zero) = 117
letter_of (suc (suc zero)) = 105
letter_of (suc (suc (suc v))) = 116

-- a line: name, tab, letter, byte 10
abbrev pub line_for : List ℕ → ℕ → ℕ → List ℕ
line_for s e v = name_of s e ++ (9 ∷ letter_of v ∷ 10 ∷ [])

-- the lines of the names from atom a on: one for each, in atom order
unfoldable pub lines_from : List ℕ → (ℕ → ℕ) → ℕ → List ℕ → List ℕ
lines_from s values a [] = []
lines_from s values a (e ∷ names) = line_for s e (values a) ++ lines_from s values (suc a) names

-- the value sheet: sheet, truth codes of its atoms, name entries
abbrev pub value_sheet : List ℕ → (ℕ → ℕ) → List ℕ → List ℕ
value_sheet s values names = lines_from s values 0 names
