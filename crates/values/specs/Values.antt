-- Believed: the codes of values, where they are written, and the room they need.
use Rattle.std.specs.Prelude.{List, [], ◌∷◌, ◌++◌, ℕ, zero, suc, leb, drop, Ok}
use Rattle.paper.specs.Table1.{Value, code}
use Rattle.refusal.specs.Numbers.{value_room_too_small}
use Rattle.refusal.specs.Checks.{Checked, asking}

-- 3: value room below N bytes
abbrev pub room_too_small : ℕ → ℕ → Checked
room_too_small N room = asking (leb N room) value_room_too_small (Ok tt)

-- the codes of n atoms' values, from atom a on
unfoldable pub codes_from : (ℕ → Value) → ℕ → ℕ → List ℕ
codes_from v a zero = []
codes_from v a (suc n) = code (v a) ∷ codes_from v (suc a) n

-- the first N bytes are the codes of the values, the others are untouched
abbrev pub written : (ℕ → Value) → ℕ → List ℕ → List ℕ
written v N room = codes_from v 0 N ++ drop N room
