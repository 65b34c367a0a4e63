-- Believed: the limits of documents 01 and 02.
use Rattle.std.specs.Prelude.{ℕ}

-- N is at most this
abbrev pub most_atoms : ℕ
most_atoms = 512

-- literal codes of so many atoms
abbrev pub most_codes : ℕ
most_codes = 1024

-- of a table
abbrev pub most_words : ℕ
most_words = 8192

-- groups of a rule, and literals of a group
abbrev pub most_in_body : ℕ
most_in_body = 64

-- a line number is at most this
abbrev pub most_line : ℕ
most_line = 32768

abbrev pub most_name_bytes : ℕ
most_name_bytes = 24

abbrev pub most_sheet_bytes : ℕ
most_sheet_bytes = 65536

-- the largest number of four digits
abbrev pub most_four_digits : ℕ
most_four_digits = 9999

-- ranks of a reason sheet are 0 to 1,023
abbrev pub most_rank : ℕ
most_rank = 1023

-- no reason sheet needs more: 1,024 lines of 4, 4, 4 and 2 digits and four bytes
abbrev pub most_reason_bytes : ℕ
most_reason_bytes = 18432
