-- Believed: which byte of a sheet may stand where, and the line of a place.
use Rattle.std.specs.Prelude.{List, [], ◌∷◌, Bool, ◌&&◌, ◌||◌, cond, ℕ, zero, suc, leb, eqb, get_or}
use Rattle.decimals.specs.Decimals.{is_digit}
use Rattle.reader.specs.declared.Role.{Role}
use Rattle.reader.specs.declared.Role.TheVariants.{Head, First, Further}

-- the byte at a place; past the end 0, which may stand nowhere
abbrev pub byte_at : List ℕ → ℕ → ℕ
byte_at s p = get_or s p 0

-- fields are parted by one tab
abbrev pub is_tab : ℕ → Bool
is_tab b = eqb b 9

-- each line is ended by byte 10
abbrev pub is_line_end : ℕ → Bool
is_line_end b = eqb b 10

-- the literals of a group are parted by one space
abbrev pub is_space : ℕ → Bool
is_space b = eqb b 32

-- an optional "-" stands before the name
abbrev pub is_minus : ℕ → Bool
is_minus b = eqb b 45

-- a name: first a to z
unfoldable pub starts_name : ℕ → Bool
starts_name b = leb 97 b && leb b 122

-- then a to z, 0 to 9, "_" or "."
unfoldable pub continues_name : ℕ → Bool
continues_name b = starts_name b || (is_digit b || (eqb b 95 || eqb b 46))

-- how many bytes at the front can belong to a name
unfoldable pub name_run : List ℕ → ℕ
name_run [] = 0
name_run (b ∷ s) = cond (continues_name b) (suc (name_run s)) 0

-- what may follow a head, and what may follow a literal of a group
unfoldable pub may_follow : Role → ℕ → Bool
may_follow Head b = is_tab b || is_line_end b
may_follow First b = is_space b || (is_tab b || is_line_end b)
may_follow Further b = is_space b || (is_tab b || is_line_end b)

-- the byte before a place; at the start of the sheet a line begins, as after byte 10
unfoldable pub byte_before : List ℕ → ℕ → ℕ
byte_before s zero = 10
byte_before s (suc p) = byte_at s p

-- the line of a place, from 1: one more with each line that has ended before it
unfoldable pub line_of : List ℕ → ℕ → ℕ
line_of s zero = 1
line_of s (suc p) = cond (is_line_end (byte_at s p)) (suc (line_of s p)) (line_of s p)
