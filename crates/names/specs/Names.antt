-- Believed: name entries, and atoms numbered by first appearance.
use Rattle.std.specs.Prelude.{List, [], ◌∷◌, Bool, true, false, ◌&&◌, cond, ℕ, zero, suc, ◌+◌, ◌*◌, ◌/◌, ◌%◌, eqb}
use Rattle.reader.specs.Sheet.{byte_at}

-- the n bytes from place q on
unfoldable pub bytes_at : List ℕ → ℕ → ℕ → List ℕ
bytes_at s q zero = []
bytes_at s q (suc n) = byte_at s q ∷ bytes_at s (suc q) n

-- a name entry: 32 × start of the name's first appearance + its length
abbrev pub entry_for : ℕ → ℕ → ℕ
entry_for start n = 32 * start + n

abbrev pub start_of : ℕ → ℕ
start_of e = e / 32

abbrev pub length_of : ℕ → ℕ
length_of e = e % 32

-- the bytes of an entry's name
abbrev pub name_of : List ℕ → ℕ → List ℕ
name_of s e = bytes_at s (start_of e) (length_of e)

-- names are equal if their bytes are
unfoldable pub same_bytes : List ℕ → List ℕ → Bool
same_bytes [] [] = true
same_bytes [] (b ∷ v) = false
same_bytes (a ∷ u) [] = false
same_bytes (a ∷ u) (b ∷ v) = eqb a b && same_bytes u v

-- the number of the first entry with this name; the number of entries, if none has it
unfoldable pub number_in : List ℕ → List ℕ → List ℕ → ℕ
number_in s [] name = 0
number_in s (e ∷ names) name = cond (same_bytes (name_of s e) name) 0 (suc (number_in s names name))
