-- Stage: a row with a bit taken out, its lowest member, and words of 64 bits.
use Rattle.std.specs.Prelude.{List, Bool, cond, ℕ, zero, suc, ◌^◌, ◌<◌, get_or, Some, None, Option}
use Rattle.std.specs.Int.Bits.{bit_xor}
use Rattle.bits.specs.Sets.{member, changed}

-- the row with bit i not set
unfoldable pub row_without : List ℕ → ℕ → List ℕ
row_without s i = cond (member s i) (changed bit_xor s i) s

-- the lowest of the n numbers from i on that passes
unfoldable pub lowest_from : ℕ → ℕ → (ℕ → Bool) → Option ℕ
lowest_from zero i p = None
lowest_from (suc n) i p = cond (p i) (Some i) (lowest_from n (suc i) p)

-- the lowest number below n that passes
abbrev pub lowest_below : ℕ → (ℕ → Bool) → Option ℕ
lowest_below n p = lowest_from n 0 p

-- every word has 64 bits
abbrev pub Words : List ℕ → Type 0
Words s = (w : ℕ) → get_or s w 0 < 2 ^ 64
