-- Stage: a text read byte by byte: the numbers that are whole, the number that has begun, and the first fault.
use Rattle.std.specs.Prelude.{Bool, true, false, not, cond, ◌&&◌, List, [], ◌∷◌, ℕ, suc, ◌+◌, ◌-◌, ◌*◌, leb, eqb, set, Ok, Err}
use Rattle.refusal.specs.Checks.{Checked}
use Rattle.refusal.specs.Numbers.{text_broken}
use Rattle.decimals.specs.Decimals.{is_digit}
use Rattle.reasontext.specs.declared.State.{State}
use Rattle.reasontext.specs.ReasonSheet.{ReasonLine}

-- of the four numbers of a line 0 to 3: what stands behind it, and which comes then
abbrev pub separator : ℕ → ℕ
separator f = cond (eqb f 3) 10 9

abbrev pub after_field : ℕ → ℕ
after_field f = cond (eqb f 3) 0 (f + 1)

-- a digit makes a number longer
abbrev pub with_digit : ℕ → ℕ → ℕ
with_digit n b = 10 * n + (b - 48)

-- may a number that has begun go on: it has no leading zero, and fewer than four digits
abbrev pub number_goes_on : ℕ → Bool
number_goes_on n = leb 1 n && leb n 999

-- does a byte break the text: n has begun, or no digit has come yet
unfoldable pub breaks : ℕ → Bool → ℕ → ℕ → Bool
breaks f begun n b = cond (is_digit b) (begun && not (number_goes_on n)) (not (begun && eqb b (separator f)))

-- what reading finds
pub record TextRead : Type 0 where
  pub fault : Checked
  pub numbers : List ℕ

abbrev pub broken : ℕ → TextRead
broken p = record { fault = Err (text_broken p); numbers = [] }

-- the text may end between two lines
unfoldable pub at_end : ℕ → Bool → ℕ → TextRead
at_end f begun p = cond (eqb f 0 && not begun) (record { fault = Ok tt; numbers = [] }) (broken p)

abbrev pub number_then : ℕ → TextRead → TextRead
number_then n r = record { fault = r.fault; numbers = n ∷ r.numbers }

-- from place p on
unfoldable pub read_from : ℕ → Bool → ℕ → ℕ → List ℕ → TextRead
read_from f begun n p [] = at_end f begun p
read_from f begun n p (b ∷ bs) =
    cond (breaks f begun n b) (broken p)
    (cond (is_digit b) (read_from f true (with_digit n b) (suc p) bs) (number_then n (read_from (after_field f) false 0 (suc p) bs)))

-- a whole text
abbrev pub read_text : List ℕ → TextRead
read_text text = read_from 0 false 0 0 text

-- lines of four numbers
unfoldable pub lines_in : List ℕ → List ReasonLine
lines_in (l ∷ r ∷ h ∷ g ∷ ns) = record { literal = l; rank = r; rule_head = h; group = g } ∷ lines_in ns
lines_in (l ∷ r ∷ h ∷ []) = []
lines_in (l ∷ r ∷ []) = []
lines_in (l ∷ []) = []
lines_in [] = []

-- what reading goes on with behind a byte that does not break the text
abbrev pub after_byte : State → ℕ → State
after_byte s b =
    cond (is_digit b) (record { field = s.field; begun = true; number = with_digit s.number b; count = s.count })
    (record { field = after_field s.field; begun = false; number = 0; count = s.count + 1 })

-- the room then
abbrev pub stored_byte : List ℕ → State → ℕ → List ℕ
stored_byte room s b = cond (is_digit b) room (set room s.count s.number)
