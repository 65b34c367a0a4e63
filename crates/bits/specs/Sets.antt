-- Believed: sets of numbers as rows of 64-bit words: i is bit i mod 64, lowest first, of word i div 64.
use Rattle.std.specs.Prelude.{List, Bool, ℕ, ◌/◌, ◌%◌, ◌^◌, eqb, get_or, set}
use Rattle.std.specs.Int.Bits.{bit_or}

-- bit j of a number, lowest first
abbrev pub bit : ℕ → ℕ → Bool
bit w j = eqb (w / 2 ^ j % 2) 1

-- is i in the set; nothing past the last word is
unfoldable pub member : List ℕ → ℕ → Bool
member s i = bit (get_or s (i / 64) 0) (i % 64)

-- the row with the word of i changed by the operation f and the bit of i; past the last word nothing changes
unfoldable pub changed : (ℕ → ℕ → ℕ) → List ℕ → ℕ → List ℕ
changed f s i = set s (i / 64) (f (get_or s (i / 64) 0) (2 ^ (i % 64)))

-- the row with bit i set
abbrev pub put_in : List ℕ → ℕ → List ℕ
put_in = changed bit_or
