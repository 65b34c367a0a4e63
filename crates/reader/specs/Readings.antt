-- Believed: what the reader says at a place of a sheet, and which place comes next.
use Rattle.std.specs.Prelude.{List, ◌⊎◌, ◌≡◌, Bool, true, false, cond, ℕ, zero, suc, ◌+◌, leb, eqb, length, drop}
use Rattle.refusal.specs.Checks.{demanding}
use Rattle.limits.specs.Limits.{most_name_bytes, most_sheet_bytes}
use Rattle.refusal.specs.Numbers.{sheet_too_long, wrong_byte, name_too_long}
use Rattle.reader.specs.declared.Role.{Role}
use Rattle.reader.specs.declared.Role.TheVariants.{Head, First, Further}
use Rattle.reader.specs.declared.Next.{Next}
use Rattle.reader.specs.declared.Reading.{Reading}
use Rattle.reader.specs.declared.Reading.TheVariants.{End, Refused, Literal}
use Rattle.reader.specs.Sheet.{byte_at, is_tab, is_line_end, is_space, is_minus, starts_name, name_run, may_follow, byte_before}

abbrev pub literal : Bool → ℕ → ℕ → Role → Reading
literal negated q n role = Literal (record { negated = negated; start = q; len = n; role = role })

-- a name of n bytes from q: at most 24, and a byte after it that may follow
unfoldable pub ended_name : List ℕ → ℕ → ℕ → Bool → Role → Reading
ended_name s q n negated role =
    demanding Refused (leb n most_name_bytes) (name_too_long (q + most_name_bytes))
    (demanding Refused (may_follow role (byte_at s (q + n))) (wrong_byte (q + n)) (literal negated q n role))

-- a name from q
unfoldable pub name_at : List ℕ → ℕ → Bool → Role → Reading
name_at s q negated role =
    demanding Refused (starts_name (byte_at s q)) (wrong_byte q) (ended_name s q (name_run (drop q s)) negated role)

-- a literal from p: an optional "-", then a name
unfoldable pub literal_at : List ℕ → ℕ → Role → Reading
literal_at s p role = cond (is_minus (byte_at s p)) (name_at s (p + 1) true role) (name_at s p false role)

-- at the start of a line: a head, or the end, if the sheet ends there
unfoldable pub line_at : List ℕ → ℕ → Reading
line_at s p = cond (eqb p (length s)) End (literal_at s p Head)

-- the byte before a place gives the role
unfoldable pub reading_after : ℕ → List ℕ → ℕ → Reading
reading_after before s p =
    cond (is_line_end before) (line_at s p)
    (cond (is_tab before) (literal_at s p First) (cond (is_space before) (literal_at s p Further) (Refused (wrong_byte p))))

-- the reading at any place of any byte sequence
unfoldable pub reading_at : List ℕ → ℕ → Reading
reading_at s p =
    demanding Refused (leb (length s) most_sheet_bytes) sheet_too_long
    (demanding Refused (leb p (length s)) (wrong_byte (length s)) (reading_after (byte_before s p) s p))

-- the place after a reading: past the literal and the byte that follows it; after the end or a refusal it does not move
unfoldable pub place_after : Reading → ℕ → ℕ
place_after End p = p
place_after (Refused r) p = p
place_after (Literal l) p = l.start + l.len + 1

-- a reading, and the place that the reader has reached then
unfoldable pub next_at : List ℕ → ℕ → Next
next_at s p = record { reading = reading_at s p; place = place_after (reading_at s p) p }

-- document 01: "The reader itself gives only 8, 10 and 11"
abbrev pub ReadersNumber : ℕ → Type 0
ReadersNumber n = (n ≡ 8) ⊎ ((n ≡ 10) ⊎ (n ≡ 11))

abbrev pub GivesOnly : Reading → Type 0
GivesOnly End = Unit {0}
GivesOnly (Refused r) = ReadersNumber r.number
GivesOnly (Literal l) = Unit {0}

-- a reading that is no literal: the end or a refusal
abbrev pub NoLiteral : Reading → Type 0
NoLiteral End = Unit {0}
NoLiteral (Refused r) = Unit {0}
NoLiteral (Literal l) = ⊥

-- the place that the reader has reached after so many readings from a place
abbrev pub reached : List ℕ → ℕ → ℕ → ℕ
reached s p zero = p
reached s p (suc n) = reached s (next_at s p).place n
