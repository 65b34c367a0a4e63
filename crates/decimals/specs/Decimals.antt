-- Believed: a number in decimal, as bytes: the digits from the highest on, no leading zero.
use Rattle.std.specs.Prelude.{Bool, cond, ◌&&◌, List, [], ◌∷◌, ◌++◌, ℕ, zero, suc, ◌+◌, ◌/◌, ◌%◌, leb, ltb}

-- the byte of a digit
abbrev pub digit : ℕ → ℕ
digit d = 48 + d

unfoldable pub is_digit : ℕ → Bool
is_digit b = leb 48 b && leb b 57

-- the last digits of a number, at most so many
unfoldable pub last_digits : ℕ → ℕ → List ℕ
last_digits zero n = []
last_digits (suc most) n = cond (ltb n 10) (digit n ∷ []) (last_digits most (n / 10) ++ (digit (n % 10) ∷ []))

-- a number has no more digits than the number after it says
abbrev pub decimal : ℕ → List ℕ
decimal n = last_digits (suc n) n
